-- Changes by clean names and values leave a case that can be printed.
use Rattle.std.proofs.Common.{◌≡◌, ◌⊎◌, inl, inr, ℕ, Bool, true, false, cond, List, [], ◌∷◌, None, Some, Option, Ok, refl, sym, ◌∙◌, subst}
use Rattle.std.specs.FinMap.{FinMap, insert, remove, get-empty}
use Rattle.std.specs.List.{AllByRecursion}
use Rattle.std.specs.Str.{IsUtf8}
use Rattle.std.proofs.lemmas.Bool.{and_from, not_from_false}
use Rattle.opa_value.specs.declared.value.Value.{Value}
use Rattle.opa_model.specs.declared.ids.AttrId.{AttrId}
use Rattle.opa_model.specs.declared.ids.RelId.{RelId}
use Rattle.opa_cells.specs.Keys.{cell_cmp}
use Rattle.opa_cells.specs.declared.instance.InstanceId.{InstanceId}
use Rattle.opa_text.specs.Laws.{CanBeQuoted}
use Rattle.opa_case.specs.declared.change.ChangeCommand.{ChangeCommand}
use Rattle.opa_case.specs.declared.change.ChangeCommand.TheVariants as change
use Rattle.opa_case.specs.declared.change.Refusal.TheVariants.{Name}
use Rattle.opa_case.specs.Cases.{CaseView, Answer, no_case}
use Rattle.opa_case.specs.Clean.{is_clean_text, is_clean_value, are_clean_names, is_clean_answer}
use Rattle.opa_case.specs.Fits.{Known, Answered}
use Rattle.opa_case.specs.Live.{Names}
use Rattle.opa_case.specs.Shapes.{Shape}
use Rattle.opa_case.specs.Steps.{is_misplaced, is_unanswerable, is_unknown_answer, answer_fault, list_fault, within, with_answer, without_answer, with_list, without_list, step}
use Rattle.opa_case.proofs.Answering.{answer_inserted, answer_removed}
use Rattle.opa_case.proofs.Kept.{inserted, removed, guard, ok_is, passed, within_is}
use Rattle.opa_case.proofs.Stepping.{settled_list, settled_answer}
use Rattle.opa_verify.proofs.spelling.Cleanness.{clean_bytes}
use Rattle.opa_verify.specs.Verdict.Fine.{IsHeld, IsPrintableCase}
use Rattle.opa_laws.proofs.verified.TextFiles.{Each}

-- ---- names and values

-- a text without control characters
abbrev pub IsCleanName : List ℕ → Type 0
IsCleanName n = (is_clean_text n ≡ true) × IsUtf8 n

abbrev pub IsCleanValue : Value → Type 0
IsCleanValue v = (is_clean_value v ≡ true) × IsHeld v

abbrev pub IsCleanPair : ℕ × Value → Type 0
IsCleanPair p = IsCleanValue p.1

pub quoted_clean : (t : List ℕ) → CanBeQuoted t → IsCleanName t
quoted_clean t h = (not_from_false _ (clean_bytes t h), h.utf8)

clean_names : (ns : Names) → Each IsCleanName ns → are_clean_names ns ≡ true
clean_names [] h = refl
clean_names (n ∷ ns) h = and_from (is_clean_text n) (are_clean_names ns) h.0.0 (clean_names ns h.1)

utf8_names : (ns : Names) → Each IsCleanName ns → AllByRecursion IsUtf8 ns
utf8_names [] h = tt
utf8_names (n ∷ ns) h = (h.0.1, utf8_names ns h.1)

clean_answer : (l : Answer) → Each IsCleanPair l → is_clean_answer l ≡ true
clean_answer [] h = refl
clean_answer (p ∷ l) h = and_from (is_clean_value p.1) (is_clean_answer l) h.0.0 (clean_answer l h.1)

held_answer : (l : Answer) → Each IsCleanPair l → AllByRecursion (λ p. IsHeld p.1) l
held_answer [] h = tt
held_answer (p ∷ l) h = (h.0.1, held_answer l h.1)

-- ---- cases

-- all names and all answers that are known are clean
pub record HasClean (lists : FinMap cell_cmp Names) (answers : FinMap cell_cmp Answer) : Type 0 where
  pub names : (r : RelId) (i : InstanceId) (ns : Names) → Known lists r i ns → Each IsCleanName ns
  pub answers_are : (a : AttrId) (i : InstanceId) (l : Answer) → Answered answers a i l → Each IsCleanPair l

pub clean_printable : (c : CaseView) → HasClean c.lists c.answers → IsPrintableCase c
clean_printable c h = record {
  clean = record { names = λ r i ns k. clean_names ns (h.names r i ns k); texts = λ a i l k. clean_answer l (h.answers_are a i l k) };
  names = λ r i ns k. utf8_names ns (h.names r i ns k);
  answers = λ a i l k. held_answer l (h.answers_are a i l k);
}

pub nothing_clean : HasClean no_case.lists no_case.answers
nothing_clean = record {
  names = λ r i ns k. absurd (let none : ◌≡◌ {A = Option Names} None (Some ns) = sym (get-empty cell_cmp (r.0, i)) ∙ k in cc none);
  answers_are = λ a i l k. absurd (let none : ◌≡◌ {A = Option Answer} None (Some l) = sym (get-empty cell_cmp (a.0, i)) ∙ k in cc none);
}

-- what a change says is clean
abbrev pub ChangesClean : ChangeCommand → Type 0
ChangesClean (change.Answer a i l) = Each IsCleanPair l
ChangesClean (change.Withdraw a i) = Unit {0}
ChangesClean (change.SetList r i ns) = Each IsCleanName ns
ChangesClean (change.Forget r i) = Unit {0}

abbrev CaseIsClean : CaseView → Type 0
CaseIsClean c = HasClean c.lists c.answers

withdrawn : (c : CaseView) (a : AttrId) (i : InstanceId) → CaseIsClean c → CaseIsClean (without_answer c a i)
withdrawn c a i h = record { names = h.names; answers_are = λ b j l k. h.answers_are b j l (answer_removed c.answers (a.0, i) (b.0, j) l k) }

answered : (c : CaseView) (a : AttrId) (i : InstanceId) (l : Answer) → Each IsCleanPair l → CaseIsClean c → CaseIsClean (with_answer c a i l)
answered c a i l is h = go (is_unknown_answer l)
  where
    new : (b : AttrId) (j : InstanceId) (m : Answer) → ((b ≡ a) × (j ≡ i) × (l ≡ m)) ⊎ Answered c.answers b j m → Each IsCleanPair m
    new b j m (inl x) = subst (Each IsCleanPair) x.2 is
    new b j m (inr old) = h.answers_are b j m old

    go : (t : Bool) → CaseIsClean (cond t (without_answer c a i) (record c { answers = insert c.answers (a.0, i) l }))
    go true = withdrawn c a i h
    go false = record { names = h.names; answers_are = λ b j m k. new b j m (answer_inserted c.answers a i l b j m k) }

-- a change that isn't refused leaves a clean case
pub step_leaves_clean : (s : Shape) (ruled : List Bool) (c c' : CaseView) (k : ChangeCommand) → ChangesClean k → CaseIsClean c → step s ruled c k ≡ Ok c' → CaseIsClean c'
step_leaves_clean s ruled c c' (change.Answer a i l) is h e =
    subst CaseIsClean (ok_is (with_answer c a i l) c' (passed (answer_fault s ruled c a i l) (Ok (with_answer c a i l)) c' e).1) (answered c a i l is h)
step_leaves_clean s ruled c c' (change.Withdraw a i) is h e =
    subst CaseIsClean (ok_is (without_answer c a i) c' (guard (is_unanswerable s ruled c a i) Name (Ok (without_answer c a i)) c' e).1) (withdrawn c a i h)
step_leaves_clean s ruled c c' (change.SetList r i ns) is h e =
    let m = insert c.lists (r.0, i) ns in
    subst CaseIsClean (within_is s ruled (with_list s c r i ns) c' (passed (list_fault s c r i ns) (within s ruled (with_list s c r i ns)) c' e).1)
    (record {
      names = λ q j ms k. new q j ms (inserted c.lists r i ns q j ms (settled_list s m c.answers q j ms k));
      answers_are = λ b j l k. h.answers_are b j l (settled_answer s m c.answers b j l k).1;
    })
  where
    new : (q : RelId) (j : InstanceId) (ms : Names) → ((q ≡ r) × (j ≡ i) × (ns ≡ ms)) ⊎ Known c.lists q j ms → Each IsCleanName ms
    new q j ms (inl x) = subst (Each IsCleanName) x.2 is
    new q j ms (inr old) = h.names q j ms old
step_leaves_clean s ruled c c' (change.Forget r i) is h e =
    let m = remove c.lists (r.0, i) in
    subst CaseIsClean (ok_is (without_list s c r i) c' (guard (is_misplaced s c r i) Name (Ok (without_list s c r i)) c' e).1)
    (record {
      names = λ q j ms k. h.names q j ms (removed c.lists (r.0, i) q j ms (settled_list s m c.answers q j ms k));
      answers_are = λ b j l k. h.answers_are b j l (settled_answer s m c.answers b j l k).1;
    })
