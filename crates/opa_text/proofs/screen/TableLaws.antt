-- The screens of questions in a table, item by item and screen by screen.
use Rattle.std.proofs.Common.{◌≡◌, ℕ, ◌+◌, ◌≤◌, Bool, true, false, cond, List, [], ◌∷◌, length, drop, Some, refl, sym, ◌∙◌, ap, zero, suc, arith}
use Rattle.std.specs.Prelude.{slice_get, unwrap_or, ◌||◌, ◌==◌}
use Rattle.std.specs.List.{list_any, position_from}
use Rattle.opa_model.specs.declared.ids.AttrId.{AttrId}
use Rattle.opa_model.specs.declared.ids.RelId.{RelId}
use Rattle.opa_model.specs.declared.lists.Lists.{Lists}
use Rattle.opa_model.specs.declared.things.Item.{Item}
use Rattle.opa_model.specs.declared.things.Item.TheVariants as item
use Rattle.opa_model.specs.declared.things.Screen.{Screen}
use Rattle.opa_case.specs.declared.question.Question.{Question}
use Rattle.opa_case.specs.declared.question.Question.TheVariants as question
use Rattle.opa_text.specs.Screen.Screens.{asks, lists}
use Rattle.opa_text.specs.Screen.Tables.{number_at, number_in, AreNumbers}
use Rattle.opa_text.specs.declared.screen.table.Table.{Table}
use Rattle.opa_text.proofs.screen.FirstListing.{here, further}

-- an item is put into one of the two maps
pub attr_put : (old new : Table) (x : Item) (b : AttrId) (n : ℕ) → x ≡ item.Attr b → ((k : ℕ) → number_at new.attrs k ≡ cond (k == b.0) n (number_at old.attrs k)) → new.lists ≡ old.lists
    → (q : Question) → number_in new q ≡ cond (asks q x) n (number_in old q)
attr_put old new x b n is put same q = go q ∙ sym (ap (λ y. cond (asks q y) n (number_in old q)) is)
  where
    go : (q : Question) → number_in new q ≡ cond (asks q (item.Attr b)) n (number_in old q)
    go (question.Attr a i) = put a.0
    go (question.Members r i) = ap (λ m. number_at m r.0) same

pub list_put : (old new : Table) (x : Item) (s : RelId) (n : ℕ) → x ≡ item.Members s → ((k : ℕ) → number_at new.lists k ≡ cond (k == s.0) n (number_at old.lists k)) → new.attrs ≡ old.attrs
    → (q : Question) → number_in new q ≡ cond (asks q x) n (number_in old q)
list_put old new x s n is put same q = go q ∙ sym (ap (λ y. cond (asks q y) n (number_in old q)) is)
  where
    go : (q : Question) → number_in new q ≡ cond (asks q (item.Members s)) n (number_in old q)
    go (question.Attr a i) = ap (λ m. number_at m a.0) same
    go (question.Members r i) = put r.0

either : (a b : Bool) (n m : ℕ) → cond (a || b) n m ≡ cond b n (cond a n m)
either true true n m = refl
either true false n m = refl
either false b n m = refl

-- what the items that are left make of the table, all make of the first one
abbrev pub AddsOn : List Item → List Item → ℕ → Table → Table → Type 0
AddsOn items rest n first now = (q : Question) → cond (list_any (asks q) items) n (number_in first q) ≡ cond (list_any (asks q) rest) n (number_in now q)

pub item_more : (items rest later : List Item) (x : Item) (n : ℕ) (first old new : Table) → rest ≡ x ∷ later → ((q : Question) → number_in new q ≡ cond (asks q x) n (number_in old q)) → AddsOn items rest n first old → AddsOn items later n first new
item_more items rest later x n first old new at put h q =
    h q ∙ ap (λ xs. cond (list_any (asks q) xs) n (number_in old q)) at ∙ either (asks q x) (list_any (asks q) later) n (number_in old q) ∙ sym (ap (λ m. cond (list_any (asks q) later) n m) (put q))

pub items_done : (items rest : List Item) (n : ℕ) (first now : Table) → rest ≡ [] → AddsOn items rest n first now → (q : Question) → number_in now q ≡ cond (list_any (asks q) items) n (number_in first q)
items_done items rest n first now at h q = sym (h q ∙ ap (λ xs. cond (list_any (asks q) xs) n (number_in now q)) at)

-- the screens from a place on are in the table
abbrev pub HasFrom : List Screen → ℕ → Table → Type 0
HasFrom ss place t = (q : Question) → number_in t q ≡ unwrap_or (position_from (lists q) (place + 1) (drop place ss)) 0

none_behind : (ss : List Screen) (n : ℕ) → length ss ≤ n → drop n ss ≡ []
none_behind [] zero over = refl
none_behind [] (suc n) over = refl
none_behind (s ∷ ss) zero over = absurd (omega (arith, over))
none_behind (s ∷ ss) (suc n) over = none_behind ss n (omega (arith, over))

pub none_yet : (ss : List Screen) (place : ℕ) (t : Table) → place ≡ length ss → ((q : Question) → number_in t q ≡ 0) → HasFrom ss place t
none_yet ss place t at none q = none q ∙ sym (ap (λ xs. unwrap_or (position_from (lists q) (place + 1) xs) 0) (none_behind ss place (omega (arith, at))))

pub screen_more : (ss : List Screen) (place left : ℕ) (s : Screen) (items : List Item) (old new : Table) → left ≡ place + 1 → slice_get ss place ≡ Some s → items ≡ s.items → ((q : Question) → number_in new q ≡ cond (list_any (asks q) items) left (number_in old q))
    → HasFrom ss left old → HasFrom ss place new
screen_more ss place left s items old new behind at same put h q = put q ∙ ap (λ xs. cond (list_any (asks q) xs) left (number_in old q)) same ∙ go (lists q s) refl
  where
    go : (b : Bool) → lists q s ≡ b → cond (lists q s) left (number_in old q) ≡ unwrap_or (position_from (lists q) (place + 1) (drop place ss)) 0
    go true e = ap (λ b. cond b left (number_in old q)) e ∙ behind ∙ sym (here (lists q) ss place (place + 1) s at e)
    go false e =
        ap (λ b. cond b left (number_in old q)) e ∙ h q ∙ ap (λ n. unwrap_or (position_from (lists q) (n + 1) (drop n ss)) 0) behind ∙ sym (further (lists q) ss place (place + 1) s at e)

pub all_there : (m : Lists) (place : ℕ) (t : Table) → place ≡ 0 → HasFrom m.screens place t → AreNumbers m t
all_there m place t at h q = h q ∙ ap (λ n. unwrap_or (position_from (lists q) (n + 1) (drop n m.screens)) 0) at
