-- A supposition that is taken back leaves nothing.
use Rattle.std.proofs.Common.{◌≡◌, ◌≤◌, ◌+◌, inl, inr, ℕ, Bool, true, false, List, [], ◌∷◌, ◌++◌, length, length-append, append_assoc, append-nil, refl, sym, ap, ◌∙◌, subst, arith}
use Rattle.std.specs.Prelude.{Some, Result, Ok, Err, MatchResult}
use Rattle.opa_case.specs.Cases.{CaseView}
use Rattle.opa_case.specs.Shapes.{shape_of}
use Rattle.opa_case.specs.Steps.{step}
use Rattle.opa_case.specs.declared.change.ChangeCommand.{ChangeCommand}
use Rattle.opa_case.specs.declared.change.Refusal.{Refusal}
use Rattle.opa_tree.specs.declared.rulebase.Rulebase.{Rulebase}
use Rattle.opa_session.specs.Infer.Sessions.{reached}
use Rattle.opa_script.specs.declared.command.Command.{Command}
use Rattle.opa_script.specs.declared.command.Command.TheVariants as command
use Rattle.opa_script.specs.declared.fault.CmdFault.{CmdFault}
use Rattle.opa_reply.specs.Refused.{refused_change}
use Rattle.opa_cases.specs.declared.kept.KeptCase.{KeptCase}
use Rattle.opa_cases.specs.declared.kept.OpenCase.{OpenCase}
use Rattle.opa_cases.specs.declared.orders.Order.{Order}
use Rattle.opa_cases.specs.declared.orders.Order.TheVariants as order
use Rattle.opa_cases.specs.Scripts.{Does, Carries, Responds, Replies, Undoes, supposed, opened_as, kept_as, left_by}
use Rattle.opa_cases.specs.Laws.{IsAbove}

abbrev Pile : Type 0
Pile = List KeptCase

-- a pile that still stands on another
pub record StandsOn (base pile : Pile) : Type 0 where
  pub above : Pile
  pub split : pile ≡ base ++ above

-- ---- lists from behind

no_end : (base : Pile) (kept : KeptCase) → length (base ++ kept ∷ []) ≡ length base + 1
no_end base kept = length-append base (kept ∷ [])

-- lists that end in one item each are equal in their fronts and ends
ends : (xs ys : Pile) (a b : KeptCase) → xs ++ a ∷ [] ≡ ys ++ b ∷ [] → (xs ≡ ys) × (a ≡ b)
ends [] [] a b e = (refl, let q : a ≡ b = cc e in q)
ends [] (y ∷ ys) a b e = absurd (omega (arith, ap length e, length-append ys (b ∷ [])))
ends (x ∷ xs) [] a b e = absurd (omega (arith, ap length e, length-append xs (a ∷ [])))
ends (x ∷ xs) (y ∷ ys) a b e =
    let p = ends xs ys a b (let q : xs ++ a ∷ [] ≡ ys ++ b ∷ [] = cc e in q) in
    let h : x ≡ y = cc e in
    (ap (λ z. z ∷ xs) h ∙ ap (λ z. y ∷ z) p.0, p.1)

-- what is taken off the end of a pile that stays at least as high as the other
taken_off : (base pile above : Pile) (kept : KeptCase) → pile ++ kept ∷ [] ≡ base ++ above → length base ≤ length pile → StandsOn base pile
taken_off [] pile above kept e le = record { above = pile; split = refl }
taken_off (b ∷ base) [] above kept e le = absurd (omega (arith, le))
taken_off (b ∷ base) (p ∷ pile) above kept e le =
    let t = taken_off base pile above kept (let q : pile ++ kept ∷ [] ≡ base ++ above = cc e in q) (omega (arith, le)) in
    let h : p ≡ b = cc e in
    record { above = t.above; split = ap (λ z. z ∷ pile) h ∙ ap (λ z. b ∷ z) t.split }

-- ---- what a line does to the pile

pile_of : (s t : OpenCase) → t ≡ s → t.pile ≡ s.pile
pile_of s t e = ap (λ (x : OpenCase). x.pile) e

changes_pile : (r : Rulebase) (s t : OpenCase) (k : ChangeCommand) (text : List ℕ) (o : Result CaseView Refusal)
    → MatchResult o (λ c. (text ≡ []) × (t ≡ opened_as c (reached r s.case c) s.pile)) (λ e. (text ≡ refused_change e) × (t ≡ s)) → t.pile ≡ s.pile
changes_pile r s t k text (Ok c) h = ap (λ (x : OpenCase). x.pile) h.1
changes_pile r s t k text (Err e) h = pile_of s t h.1

does_pile : (r : Rulebase) (s t : OpenCase) (c : Command) (text : List ℕ) → Does r s c text t → t.pile ≡ s.pile
does_pile r s t (command.Change k) text h = changes_pile r s t k text (step (shape_of r.model) r.ruled s.case k) h
does_pile r s t (command.ShowAttr a i) text h = pile_of s t h.1
does_pile r s t (command.ShowMembers n i) text h = pile_of s t h.1
does_pile r s t command.Goals text h = pile_of s t h.1
does_pile r s t command.Next text h = pile_of s t h.1
does_pile r s t command.Stats text h = pile_of s t h.1
does_pile r s t command.Nothing text h = pile_of s t h.1
does_pile r s t command.Screen text h = pile_of s t h.1
does_pile r s t (command.Report a i d) text h = pile_of s t h.1
does_pile r s t (command.Save n) text h = pile_of s t h.1
does_pile r s t (command.Load n) text h = pile_of s t h.1
does_pile r s t (command.Dismiss n) text h = pile_of s t h.1

stays : (base : Pile) (s t : OpenCase) → t.pile ≡ s.pile → StandsOn base s.pile → StandsOn base t.pile
stays base s t e h = record { above = h.above; split = e ∙ h.split }

grows : (base : Pile) (s t : OpenCase) → t ≡ supposed s → StandsOn base s.pile → StandsOn base t.pile
grows base s t e h =
    let kept : Pile = kept_as s.case s.reached ∷ [] in
    record { above = h.above ++ kept; split = pile_of (supposed s) t e ∙ ap (λ p. p ++ kept) h.split ∙ append_assoc base h.above kept }

carried : (r : Rulebase) (base : Pile) (s t : OpenCase) (k : Order) (text : List ℕ) (closed : Bool) → Carries r s k text closed t → closed ≡ false → length base ≤ length t.pile → StandsOn base s.pile → StandsOn base t.pile
carried r base s t order.Nothing text closed h is le stands = stays base s t (pile_of s t h.2) stands
carried r base s t order.Suppose text closed (inl h, e) is le stands = grows base s t h.2 stands
carried r base s t order.Suppose text closed (inr h, e) is le stands = stays base s t (pile_of s t h.2) stands
carried r base s t order.Undo text closed (inl h, e) is le stands = stays base s t (pile_of s t h.2) stands
carried r base s t order.Undo text closed (inr h, e) is le stands =
    let p : t.pile ≡ h.pile = ap (λ (x : OpenCase). x.pile) h.after in
    let off = taken_off base h.pile stands.above h.kept (sym h.last ∙ stands.split) (subst (λ q. length base ≤ length q) p le) in
    record { above = off.above; split = p ∙ off.split }
carried r base s t order.Close text closed h is le stands = absurd (let q : true ≡ false = sym h.1 ∙ is in cc q)
carried r base s t (order.Does c) text closed h is le stands = stays base s t (does_pile r s t c text h.0) stands

responded : (r : Rulebase) (base : Pile) (s t : OpenCase) (read : Result Order CmdFault) (text : List ℕ) (closed : Bool) → Responds r s read text closed t → closed ≡ false → length base ≤ length t.pile → StandsOn base s.pile → StandsOn base t.pile
responded r base s t (Ok k) text closed h is le stands = carried r base s t k text closed h is le stands
responded r base s t (Err f) text closed h is le stands = stays base s t (pile_of s t h.3) stands

-- a case that is open after a line wasn't closed by it
left_open : (closed : Bool) (t u : OpenCase) → Some u ≡ left_by closed t → (closed ≡ false) × (t ≡ u)
left_open true t u e = absurd (cc e)
left_open false t u e = (refl, let q : t ≡ u = cc e in q)

replied : (r : Rulebase) (base : Pile) (s u : OpenCase) (rest text : List ℕ) → Replies r s rest text (Some u) → length base ≤ length u.pile → StandsOn base s.pile → StandsOn base u.pile
replied r base s u rest text h le stands =
    let l = left_open h.closed h.after u h.left in
    responded r base s u h.read text h.closed (subst (Responds r s h.read text h.closed) l.1 h.responds) l.0 le stands

above : (r : Rulebase) (base : Pile) (s t : OpenCase) (rests : List (List ℕ)) → IsAbove r (length base) s rests t → StandsOn base s.pile → StandsOn base t.pile
above r base s t [] h stands = stays base s t (pile_of s t h) stands
above r base s t (rest ∷ more) h stands = above r base h.1 t more h.4 (replied r base s h.1 rest h.0 h.2 h.3 stands)

-- ---- the end

-- a pile that is as high as the one it stands on is that one
alone_there : (base pile over : Pile) → pile ≡ base ++ over → length pile ≡ length base → pile ≡ base
alone_there base pile [] e f = e ∙ append-nil base
alone_there base pile (first ∷ over) e f = absurd (omega (arith, ap length e, length-append base (first ∷ over), f))

not_empty : (pile : Pile) (kept : KeptCase) → [] ≡ pile ++ kept ∷ [] → ⊥
not_empty [] kept e = cc e
not_empty (p ∷ pile) kept e = cc e

taken_back : (s t u : OpenCase) (said : List ℕ) → t.pile ≡ s.pile ++ kept_as s.case s.reached ∷ [] → Undoes t said u → u ≡ s
taken_back s t u said e (inl h) = absurd (not_empty s.pile (kept_as s.case s.reached) (sym h.0 ∙ e))
taken_back s t u said e (inr h) =
    let p = ends h.pile s.pile h.kept (kept_as s.case s.reached) (sym h.last ∙ e) in
    h.after ∙ ap (λ (k : KeptCase). opened_as k.case k.reached h.pile) p.1 ∙ ap (λ q. opened_as s.case s.reached q) p.0

pub leave_nothing : (r : Rulebase) (s t u : OpenCase) (rests : List (List ℕ)) (said : List ℕ) → IsAbove r (length s.pile + 1) (supposed s) rests t → length t.pile ≡ length s.pile + 1 → Undoes t said u → u ≡ s
leave_nothing r s t u rests said run high undone =
    let base : Pile = s.pile ++ kept_as s.case s.reached ∷ [] in
    let n : length s.pile + 1 ≡ length base = sym (no_end s.pile (kept_as s.case s.reached)) in
    let stands = above r base (supposed s) t rests (subst (λ k. IsAbove r k (supposed s) rests t) n run) (record { above = []; split = sym (append-nil base) }) in
    taken_back s t u said (alone_there base t.pile stands.above stands.split (high ∙ n)) undone
