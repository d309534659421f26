-- The strings of a tree that is read of a text are texts.
use Rattle.std.proofs.Common.{ℕ, zero, suc, List, [], ◌∷◌, length, Ordering, Less, Equal, Greater, Option, None, Some, subst}
use Rattle.std.specs.Prelude.{option_and_then}
use Rattle.std.specs.Ordering.{match_ordering}
use Rattle.std.specs.Str.{IsUtf8}
use Rattle.json.specs.Token.{Token}
use Rattle.json.specs.Lex.{tokens}
use Rattle.json.specs.Json as json
use Rattle.json.specs.Json.{Json, Parse, parse_map, after_end_array, read_key, items_step, members_step, items, members, value_with, value}
use Rattle.serde_json.specs.Data.{Data, number, array, object, item, Members, no_members, member, put}
use Rattle.serde_json.specs.Read.{number_of, of_json, of_items, of_members, max_depth}
use Rattle.opa_laws.proofs.verified.JsonTexts.{HasTexts, ItemsHaveTexts, MembersHaveTexts, JsonIsText}
use Rattle.opa_laws.proofs.verified.JsonStrings.{Of, of_map, of_then, TokensAreTexts, tokens_are_texts}

abbrev mutual
  JsonTexts : Json → Type 0
  JsonTexts json.null = Unit {0}
  JsonTexts (json.boolean b) = Unit {0}
  JsonTexts (json.number s) = Unit {0}
  JsonTexts (json.string s) = IsUtf8 s
  JsonTexts (json.array js) = ItemTexts js
  JsonTexts (json.object ms) = MemberTexts ms

  ItemTexts : json.Items → Type 0
  ItemTexts json.no_items = Unit {0}
  ItemTexts (json.item j js) = JsonTexts j × ItemTexts js

  MemberTexts : json.Members → Type 0
  MemberTexts json.no_members = Unit {0}
  MemberTexts (json.member k j ms) = JsonTexts j × MemberTexts ms

-- ---- what is parsed, with the tokens that are left

abbrev Both : {A : Type 0} → (A → Type 0) → A × List Token → Type 0
Both P x = P x.0 × TokensAreTexts x.1

abbrev Parses : {A : Type 0} → (A → Type 0) → Parse A → Type 0
Parses P p = (ts : List Token) → TokensAreTexts ts → Of (Both P) (p ts)

mapped : {A B : Type 0} (P : A → Type 0) (Q : B → Type 0) (f : A → B) → ((x : A) → P x → Q (f x)) → (o : Option (A × List Token)) → Of (Both P) o → Of (Both Q) (parse_map f o)
mapped P Q f h None k = tt
mapped P Q f h (Some x) k = (h x.0 k.0, k.1)

closed : (ts : List Token) → TokensAreTexts ts → Of TokensAreTexts (after_end_array ts)
closed [] h = tt
closed (Token.begin_object ∷ ts) h = tt
closed (Token.end_object ∷ ts) h = tt
closed (Token.begin_array ∷ ts) h = tt
closed (Token.end_array ∷ ts) h = h.1
closed (Token.key s ∷ ts) h = tt
closed (Token.string s ∷ ts) h = tt
closed (Token.number s ∷ ts) h = tt
closed (Token.boolean b ∷ ts) h = tt
closed (Token.null ∷ ts) h = tt
closed (Token.bad ∷ ts) h = tt

abbrev Rest : Option (List ℕ) × List Token → Type 0
Rest x = TokensAreTexts x.1

keyed : (ts : List Token) → TokensAreTexts ts → Of Rest (read_key ts)
keyed [] h = tt
keyed (Token.begin_object ∷ ts) h = tt
keyed (Token.end_object ∷ ts) h = h.1
keyed (Token.begin_array ∷ ts) h = tt
keyed (Token.end_array ∷ ts) h = tt
keyed (Token.key s ∷ ts) h = h.1
keyed (Token.string s ∷ ts) h = tt
keyed (Token.number s ∷ ts) h = tt
keyed (Token.boolean b ∷ ts) h = tt
keyed (Token.null ∷ ts) h = tt
keyed (Token.bad ∷ ts) h = tt

module _ (p : Parse Json) (parses : Parses JsonTexts p) where
  item_turn : (more : Parse json.Items) → Parses ItemTexts more → (ts : List Token) (o : Option (List Token)) → TokensAreTexts ts → Of TokensAreTexts o → Of (Both ItemTexts) (items_step p more ts o)
  item_turn more again ts (Some r) h k = (tt, k)
  item_turn more again ts None h k =
      of_then (Both JsonTexts) (Both ItemTexts) (λ x. parse_map (json.item x.0) (more x.1)) (λ x i. mapped ItemTexts ItemTexts (json.item x.0) (λ js j. (i.0, j)) (more x.1) (again x.1 i.1)) (p ts) (parses ts h)

  items_texts : (n : ℕ) → Parses ItemTexts (items p n)
  unfolding items
  items_texts zero ts h = tt
  items_texts (suc n) ts h = item_turn (items p n) (items_texts n) ts (after_end_array ts) h (closed ts h)

  member_turn : (more : Parse json.Members) → Parses MemberTexts more → (k : Option (List ℕ)) (ts : List Token) → TokensAreTexts ts → Of (Both MemberTexts) (members_step p more k ts)
  member_turn more again None ts h = (tt, h)
  member_turn more again (Some k) ts h =
      of_then (Both JsonTexts) (Both MemberTexts) (λ x. parse_map (json.member k x.0) (more x.1)) (λ x i. mapped MemberTexts MemberTexts (json.member k x.0) (λ ms j. (i.0, j)) (more x.1) (again x.1 i.1)) (p ts) (parses ts h)

  members_texts : (n : ℕ) → Parses MemberTexts (members p n)
  unfolding members
  members_texts zero ts h = tt
  members_texts (suc n) ts h = of_then Rest (Both MemberTexts) (λ x. members_step p (members p n) x.0 x.1) (λ x k. member_turn (members p n) (members_texts n) x.0 x.1 k) (read_key ts) (keyed ts h)

one_level : (a : Parse json.Items) (o : Parse json.Members) → Parses ItemTexts a → Parses MemberTexts o → Parses JsonTexts (value_with a o)
one_level a o p q [] h = tt
one_level a o p q (Token.begin_object ∷ ts) h = mapped MemberTexts JsonTexts json.object (λ ms k. k) (o ts) (q ts h.1)
one_level a o p q (Token.end_object ∷ ts) h = tt
one_level a o p q (Token.begin_array ∷ ts) h = mapped ItemTexts JsonTexts json.array (λ js k. k) (a ts) (p ts h.1)
one_level a o p q (Token.end_array ∷ ts) h = tt
one_level a o p q (Token.key s ∷ ts) h = tt
one_level a o p q (Token.string s ∷ ts) h = (h.0, h.1)
one_level a o p q (Token.number s ∷ ts) h = (tt, h.1)
one_level a o p q (Token.boolean b ∷ ts) h = (tt, h.1)
one_level a o p q (Token.null ∷ ts) h = (tt, h.1)
one_level a o p q (Token.bad ∷ ts) h = tt

value_texts : (d : ℕ) → Parses JsonTexts (value d)
unfolding value
value_texts zero = one_level (λ ts. None) (λ ts. None) (λ ts h. tt) (λ ts h. tt)
value_texts (suc d) =
    one_level (λ ts. items (value d) (length ts) ts) (λ ts. members (value d) (length ts) ts) (λ ts h. items_texts (value d) (value_texts d) (length ts) ts h) (λ ts h. members_texts (value d) (value_texts d) (length ts) ts h)

-- ---- what is made of it

ordered : (o : Ordering) (a b c : Members) → MembersHaveTexts a → MembersHaveTexts b → MembersHaveTexts c → MembersHaveTexts (match_ordering o a b c)
ordered Less a b c p q r = p
ordered Equal a b c p q r = q
ordered Greater a b c p q r = r

put_texts : (k : List ℕ) (d : Data) (ms : Members) → HasTexts d → MembersHaveTexts ms → MembersHaveTexts (put k d ms)
put_texts k d no_members p q = (p, tt)
put_texts k d (member l e ms) p q = ordered _ (member k d (member l e ms)) (member l d ms) (member l e (put k d ms)) (p, q) (p, q.1) (q.0, put_texts k d ms p q.1)

pub any : {A : Type 0} (o : Option A) → Of (λ _. Unit {0}) o
any None = tt
any (Some x) = tt

mutual
  of_json_texts : (j : Json) → JsonTexts j → Of HasTexts (of_json j)
  of_json_texts json.null h = tt
  of_json_texts (json.boolean b) h = tt
  of_json_texts (json.number s) h = of_map (λ _. Unit {0}) HasTexts number (λ n k. tt) (number_of s) (any (number_of s))
  of_json_texts (json.string s) h = h
  of_json_texts (json.array js) h = of_map ItemsHaveTexts HasTexts array (λ ds k. k) (of_items js) (of_items_texts js h)
  of_json_texts (json.object ms) h = of_map MembersHaveTexts HasTexts object (λ ds k. k) (of_members ms no_members) (of_members_texts ms no_members h tt)

  of_items_texts : (js : json.Items) → ItemTexts js → Of ItemsHaveTexts (of_items js)
  of_items_texts json.no_items h = tt
  of_items_texts (json.item j js) h =
      let more = of_items_texts js h.1 in
      of_then HasTexts ItemsHaveTexts _ (λ d k. of_map ItemsHaveTexts ItemsHaveTexts (item d) (λ ds i. (k, i)) (of_items js) more) (of_json j) (of_json_texts j h.0)

  of_members_texts : (ms : json.Members) (found : Members) → MemberTexts ms → MembersHaveTexts found → Of MembersHaveTexts (of_members ms found)
  of_members_texts json.no_members found h k = k
  of_members_texts (json.member name j ms) found h k = of_then HasTexts MembersHaveTexts _ (λ d i. of_members_texts ms (put name d found) h.1 (put_texts name d found i k)) (of_json j) (of_json_texts j h.0)

last_texts : (o : Option (Json × List Token)) → Of (Both JsonTexts) o → Of JsonTexts (option_and_then (λ p. json.if_last p.0 p.1) o)
last_texts None h = tt
last_texts (Some (j, [])) h = h.0
last_texts (Some (j, t ∷ r)) h = tt

pub json_is_text_holds : JsonIsText
json_is_text_holds bytes d u e =
    subst (Of HasTexts) e
    (of_then JsonTexts HasTexts of_json (λ j h. of_json_texts j h) (option_and_then (λ p. json.if_last p.0 p.1) (value max_depth (tokens bytes))) (last_texts (value max_depth (tokens bytes)) (value_texts max_depth (tokens bytes) (tokens_are_texts bytes u))))
