-- Lines of a caseload have one transcript.
use Rattle.std.proofs.Common.{◌≡◌, ◌⊎◌, inl, inr, ℕ, Bool, true, false, List, [], ◌∷◌, ◌++◌, reverse, refl, sym, ap, ◌∙◌, subst}
use Rattle.std.specs.Prelude.{nat_lt, length, Option, None, Some, Result, Ok, Err, MatchResult}
use Rattle.std.specs.FinMap as map
use Rattle.std.proofs.lemmas.List.{reverse-append}
use Rattle.opa_case.specs.Cases.{CaseView}
use Rattle.opa_case.specs.Shapes.{shape_of}
use Rattle.opa_case.specs.Steps.{step}
use Rattle.opa_case.specs.declared.change.ChangeCommand.{ChangeCommand}
use Rattle.opa_model.specs.Models.{IsModel}
use Rattle.opa_script.specs.declared.command.Command.{Command}
use Rattle.opa_script.specs.declared.command.Command.TheVariants as command
use Rattle.opa_script.specs.declared.fault.CmdFault.{CmdFault}
use Rattle.opa_script.specs.Laws.{OneCommand, RefusedOrRead}
use Rattle.opa_laws.specs.Decided.Laws.{OneCommandFault}
use Rattle.opa_talk.specs.Transcript.{IsTranscript, Prints}
use Rattle.opa_tree.specs.declared.rulebase.Rulebase.{Rulebase}
use Rattle.opa_cases.specs.declared.kept.KeptCase.{KeptCase}
use Rattle.opa_cases.specs.declared.kept.OpenCase.{OpenCase}
use Rattle.opa_cases.specs.declared.orders.Order.{Order}
use Rattle.opa_cases.specs.declared.orders.Order.TheVariants as order
use Rattle.opa_cases.specs.Scripts.{Carries, Changes, DEEPEST, Does, IsReadAs, Replies, Responds, Supposes, Undoes, left_by, opened, opened_as}
use Rattle.opa_cases.specs.Caseload.{Held, IsNamed, RepliesLine, RepliesNamed, behind_name, caseload, is_full, put, with_cases}
use Rattle.opa_cases.proofs.ReadLaws.{one_front}
use Rattle.opa_desk.proofs.OneOrder.{one_order, one_reason, order_or_reason}

-- a text and what is left
abbrev Same : {X : Type 0} → List ℕ → List ℕ → X → X → Type 0
Same t u y z = (t ≡ u) × (y ≡ z)

-- what stands last, and what stands before it
last_of : {X : Type 0} (xs ys : List X) (x y : X) → xs ++ x ∷ [] ≡ ys ++ y ∷ [] → (xs ≡ ys) × (x ≡ y)
last_of {X} xs ys x y e =
    let f : x ∷ reverse xs ≡ y ∷ reverse ys = sym (reverse-append xs (x ∷ [])) ∙ ap reverse e ∙ reverse-append ys (y ∷ []) in
    let g : reverse xs ≡ reverse ys = cc f in
    let h : x ≡ y = cc f in
    (sym (reverse_twice xs) ∙ ap reverse g ∙ reverse_twice ys, h)
  where
    reverse_twice : (zs : List X) → reverse (reverse zs) ≡ zs
    reverse_twice [] = refl
    reverse_twice (z ∷ zs) = ap reverse (reverse-append (z ∷ []) zs) ∙ reverse-append (reverse zs) (z ∷ []) ∙ ap (λ ws. z ∷ ws) (reverse_twice zs)

not_both : {T : Type 0} (b : Bool) → b ≡ true → b ≡ false → T
not_both b h g = let e : true ≡ false = sym h ∙ g in absurd (cc e)

-- ---- one case

one_match : {A E : Type 0} (x : Result A E) (P Q : A → Type 0) (R S : E → Type 0) (T : Type 0) → ((a : A) → P a → Q a → T) → ((e : E) → R e → S e → T) → MatchResult x P R → MatchResult x Q S → T
one_match (Ok a) P Q R S T f g h k = f a h k
one_match (Err e) P Q R S T f g h k = g e h k

module _ (r : Rulebase) (s : OpenCase) where
  one_change : (k : ChangeCommand) (t u : List ℕ) (y z : OpenCase) → Changes r s k t y → Changes r s k u z → Same t u y z
  one_change k t u y z h g =
      one_match (step (shape_of r.model) r.ruled s.case k) _ _ _ _ (Same t u y z) (λ c a b. (a.0 ∙ sym b.0, a.1 ∙ sym b.1)) (λ e a b. (a.0 ∙ sym b.0, a.1 ∙ sym b.1)) h g

  does_one : (c : Command) (t u : List ℕ) (y z : OpenCase) → Does r s c t y → Does r s c u z → Same t u y z
  does_one (command.Change k) t u y z h g = one_change k t u y z h g
  does_one (command.ShowAttr a i) t u y z h g = (h.0 ∙ sym g.0, h.1 ∙ sym g.1)
  does_one (command.ShowMembers n i) t u y z h g = (h.0 ∙ sym g.0, h.1 ∙ sym g.1)
  does_one command.Goals t u y z h g = (h.0 ∙ sym g.0, h.1 ∙ sym g.1)
  does_one command.Next t u y z h g = (h.0 ∙ sym g.0, h.1 ∙ sym g.1)
  does_one command.Stats t u y z h g = (h.0 ∙ sym g.0, h.1 ∙ sym g.1)
  does_one command.Nothing t u y z h g = (h.0 ∙ sym g.0, h.1 ∙ sym g.1)
  does_one command.Screen t u y z h g = (h.0 ∙ sym g.0, h.1 ∙ sym g.1)
  does_one (command.Report a i d) t u y z h g = (h.0 ∙ sym g.0, h.1 ∙ sym g.1)
  does_one (command.Save name) t u y z h g = (h.0 ∙ sym g.0, h.1 ∙ sym g.1)
  does_one (command.Load name) t u y z h g = (h.0 ∙ sym g.0, h.1 ∙ sym g.1)
  does_one (command.Dismiss n) t u y z h g = (h.0 ∙ sym g.0, h.1 ∙ sym g.1)

  supposes_one : (t u : List ℕ) (y z : OpenCase) → Supposes s t y → Supposes s u z → Same t u y z
  supposes_one t u y z (inl h) (inl g) = (h.1 ∙ sym g.1, h.2 ∙ sym g.2)
  supposes_one t u y z (inl h) (inr g) = not_both (nat_lt (length s.pile) DEEPEST) h.0 g.0
  supposes_one t u y z (inr h) (inl g) = not_both (nat_lt (length s.pile) DEEPEST) g.0 h.0
  supposes_one t u y z (inr h) (inr g) = (h.1 ∙ sym g.1, h.2 ∙ sym g.2)

  some_is_none : {T : Type 0} (pile : List KeptCase) (k : KeptCase) → [] ≡ pile ++ k ∷ [] → T
  some_is_none [] k e = absurd (cc e)
  some_is_none (x ∷ pile) k e = absurd (cc e)

  undoes_one : (t u : List ℕ) (y z : OpenCase) → Undoes s t y → Undoes s u z → Same t u y z
  undoes_one t u y z (inl h) (inl g) = (h.1 ∙ sym g.1, h.2 ∙ sym g.2)
  undoes_one t u y z (inl h) (inr g) = some_is_none g.pile g.kept (sym h.0 ∙ g.last)
  undoes_one t u y z (inr h) (inl g) = some_is_none h.pile h.kept (sym g.0 ∙ h.last)
  undoes_one t u y z (inr h) (inr g) =
      let same = last_of h.pile g.pile h.kept g.kept (sym h.last ∙ g.last) in
      (h.says ∙ sym g.says, h.after ∙ ap (λ (k : KeptCase). opened_as k.case k.reached h.pile) same.1 ∙ ap (opened_as g.kept.case g.kept.reached) same.0 ∙ sym g.after)

  -- what is left of a case that stays open, or that is closed
  stays_open : (t u : List ℕ) (c d : Bool) (y z : OpenCase) → c ≡ false → d ≡ false → Same t u y z → Same t u (left_by c y) (left_by d z)
  stays_open t u c d y z still also h = (h.0, ap (λ b. left_by b y) still ∙ ap (λ (x : OpenCase). Some x) h.1 ∙ sym (ap (λ b. left_by b z) also))

  carries_one : (k : Order) (t u : List ℕ) (c d : Bool) (y z : OpenCase) → Carries r s k t c y → Carries r s k u d z → Same t u (left_by c y) (left_by d z)
  carries_one order.Nothing t u c d y z h g = stays_open t u c d y z h.1 g.1 (h.0 ∙ sym g.0, h.2 ∙ sym g.2)
  carries_one order.Suppose t u c d y z h g = stays_open t u c d y z h.1 g.1 (supposes_one t u y z h.0 g.0)
  carries_one order.Undo t u c d y z h g = stays_open t u c d y z h.1 g.1 (undoes_one t u y z h.0 g.0)
  carries_one order.Close t u c d y z h g = (h.0 ∙ sym g.0, ap (λ b. left_by b y) h.1 ∙ sym (ap (λ b. left_by b z) g.1))
  carries_one (order.Does k) t u c d y z h g = stays_open t u c d y z h.1 g.1 (does_one k t u y z h.0 g.0)

  responds_one : (read : Result Order CmdFault) (t u : List ℕ) (c d : Bool) (y z : OpenCase) → Responds r s read t c y → Responds r s read u d z → Same t u (left_by c y) (left_by d z)
  responds_one (Ok k) t u c d y z h g = carries_one k t u c d y z h g
  responds_one (Err f) t u c d y z h g = stays_open t u c d y z h.2 g.2 (h.1 ∙ sym g.1, h.3 ∙ sym g.3)

module _ (one_command : OneCommand) (one_fault : OneCommandFault) (apart : RefusedOrRead) where
  one_read : (r : Rulebase) (rest : List ℕ) → IsModel r.model → (a b : Result Order CmdFault) → IsReadAs r rest a → IsReadAs r rest b → a ≡ b
  one_read r rest is (Ok k) (Ok l) h g = ap (λ x. Ok x) (one_order r.model rest is one_command k l h g)
  one_read r rest is (Ok k) (Err f) h g = absurd (order_or_reason r.model rest apart k f h g)
  one_read r rest is (Err f) (Ok k) h g = absurd (order_or_reason r.model rest apart k f g h)
  one_read r rest is (Err f) (Err g) h k = ap (λ x. Err x) (one_reason r.model rest one_fault f g h k)

  replies_one : (r : Rulebase) (s : OpenCase) (rest t u : List ℕ) (o p : Option OpenCase) → IsModel r.model → Replies r s rest t o → Replies r s rest u p → Same t u o p
  replies_one r s rest t u o p is h g =
      let read = one_read r rest is h.read g.read h.is g.is in
      let same = responds_one r s g.read t u h.closed g.closed h.after g.after (subst (λ x. Responds r s x t h.closed h.after) read h.responds) g.responds in
      (same.0, h.left ∙ same.1 ∙ sym g.left)

  -- ---- a line

  named_one : (x y z : Held) (name rest t u : List ℕ) → IsModel x.rules.model → RepliesNamed x name rest t y → RepliesNamed x name rest u z → Same t u y z
  named_one x y z name rest t u is (inl h) (inl g) = (h.1 ∙ sym g.1, h.2 ∙ sym g.2)
  named_one x y z name rest t u is (inl h) (inr g) = not_both (is_full x.open_cases name) h.0 g.room
  named_one x y z name rest t u is (inr h) (inl g) = not_both (is_full x.open_cases name) g.0 h.room
  named_one x y z name rest t u is (inr h) (inr g) =
      let same = replies_one x.rules (opened (map.get x.open_cases name)) rest h.said g.said h.next g.next is h.replies g.replies in (
        h.text_is ∙ ap (behind_name name) same.0 ∙ sym g.text_is,
        h.after ∙ ap (λ (o : Option OpenCase). with_cases x (put x.open_cases name o)) same.1 ∙ sym g.after,
      )

  one_name : (read n m r s : List ℕ) → IsNamed read n r → IsNamed read m s → (n ≡ m) × (r ≡ s)
  one_name read n m r s h g = one_front _ n m r s h.begins g.begins

  one_line : (x y z : Held) (read t u : List ℕ) → IsModel x.rules.model → RepliesLine x read t y → RepliesLine x read u z → Same t u y z
  one_line x y z read t u is (inl h) (inl g) = (h.1.0 ∙ sym g.1.0, h.1.1 ∙ sym g.1.1)
  one_line x y z read t u is (inl h) (inr g) = absurd (h.0 g.0 g.1 g.2)
  one_line x y z read t u is (inr h) (inl g) = absurd (g.0 h.0 h.1 h.2)
  one_line x y z read t u is (inr h) (inr g) =
      let same = one_name read h.0 g.0 h.1 g.1 h.2 g.2 in
      named_one x y z g.0 g.1 t u is (subst (λ rest. RepliesNamed x g.0 rest t y) same.1 (subst (λ name. RepliesNamed x name h.1 t y) same.0 h.3)) g.3

  named_rules : (x y : Held) (name rest t : List ℕ) → RepliesNamed x name rest t y → y.rules ≡ x.rules
  named_rules x y name rest t (inl h) = ap (λ (z : Held). z.rules) h.2
  named_rules x y name rest t (inr h) = ap (λ (z : Held). z.rules) h.after

  line_rules : (x y : Held) (read t : List ℕ) → RepliesLine x read t y → y.rules ≡ x.rules
  line_rules x y read t (inl h) = ap (λ (z : Held). z.rules) h.1.1
  line_rules x y read t (inr h) = named_rules x y h.0 h.1 t h.3

  -- ---- lines

  prints_one : (x y z : Held) (lines : List (List ℕ)) (t u : List ℕ) → IsModel x.rules.model → Prints caseload x lines t y → Prints caseload x lines u z → Same t u y z
  prints_one x y z [] t u is p q = (p.0 ∙ sym q.0, p.1 ∙ sym q.1)
  prints_one x y z (line ∷ more) t u is (inl over) q = absurd (let no : false ≡ true = over.0 in cc no)
  prints_one x y z (line ∷ more) t u is (inr p) (inl over) = absurd (let no : false ≡ true = over.0 in cc no)
  prints_one x y z (line ∷ more) t u is (inr p) (inr q) =
      let a = p.1 in
      let b = q.1 in
      let here = one_line x a.1 b.1 line a.0 b.0 is a.3 b.3 in
      let still = subst (λ (r : Rulebase). IsModel r.model) (sym (line_rules x a.1 line a.0 a.3)) is in
      let rest = prints_one a.1 y z more a.2 b.2 still a.4 (subst (λ (s : Held). Prints caseload s more b.2 z) (sym here.1) b.4) in
      (a.5 ∙ ap (λ s. s ++ ([] ++ a.2)) here.0 ∙ ap (λ s. b.0 ++ ([] ++ s)) rest.0 ∙ sym b.5, rest.1)

  pub one_transcript_of : (x y z : Held) (lines : List (List ℕ)) (t u : List ℕ) → IsModel x.rules.model → IsTranscript caseload x lines t y → IsTranscript caseload x lines u z → Same t u y z
  one_transcript_of x y z lines t u is p q =
      let same = prints_one x y z lines p.0 q.0 is p.1 q.1 in
      (p.2 ∙ ap (λ s. [] ++ s) same.0 ∙ sym q.2, same.1)
