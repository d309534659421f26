-- What is kept fits the rulebase.
use Rattle.std.proofs.Common.{◌≡◌, inr, ℕ, List, [], ◌∷◌, ◌++◌, sym, subst, ◌∙◌, OnOk, OnErr, Ok, Err, IfSome}
use Rattle.std.specs.Prelude.{Option, None, Some, Result, codes}
use Rattle.std.specs.FinMap as map
use Rattle.std.proofs.lemmas.List.Elements.{All-nil, All-push, All-pop}
use Rattle.opa_case.specs.Cases.{CaseView, no_case}
use Rattle.opa_case.specs.Laws.{EmptyFits}
use Rattle.opa_model.specs.Models.{IsModel}
use Rattle.opa_tree.specs.declared.rulebase.Rulebase.{Rulebase}
use Rattle.opa_cases.specs.declared.kept.Current.{Current}
use Rattle.opa_cases.specs.declared.kept.KeptCase.{KeptCase}
use Rattle.opa_cases.specs.declared.kept.OpenCase.{OpenCase}
use Rattle.opa_cases.specs.Caseload.{Opens}
use Rattle.opa_cases.specs.Holding.{FitsRules, PileFits, OpenFits, AllFit, IsApart, CurrentFits}
use Rattle.opa_cases.specs.Scripts.{Undoes, kept_as, opened_as, line}
use Rattle.opa_cases.proofs.OpenLaws.{fit_inserted, fit_removed}

module _ (r : Rulebase) where
  abbrev Fit : KeptCase → Type 0
  Fit k = FitsRules r k.case

  pub fresh_fits : (c : CaseView) (pile : List KeptCase) → EmptyFits → IsModel r.model → c ≡ no_case → pile ≡ [] → OpenFits r (opened_as c 0 pile)
  fresh_fits c pile empty model none bare = record { case = subst (FitsRules r) (sym none) (empty r.model r.ruled model); pile = subst (PileFits r) (sym bare) (All-nil Fit) }

  pub pile_more : (old new : List KeptCase) (c : CaseView) (n : ℕ) → new ≡ old ++ kept_as c n ∷ [] → FitsRules r c → PileFits r old → PileFits r new
  pile_more old new c n e fits all = subst (PileFits r) (sym e) (All-push Fit old (kept_as c n) all fits)

  pub pile_front : (all pile : List KeptCase) (kept : KeptCase) → all ≡ pile ++ kept ∷ [] → PileFits r all → PileFits r pile
  pile_front all pile kept e h = (All-pop Fit all pile (Some kept) e h).0

  pub pile_last : (all pile : List KeptCase) (kept : KeptCase) → all ≡ pile ++ kept ∷ [] → PileFits r all → FitsRules r kept.case
  pile_last all pile kept e h = (All-pop Fit all pile (Some kept) e h).1

  pub fit_after : {T E : Type 0} (res : Result T E) (old new : Opens) (name : List ℕ) (v : OpenCase) → OnOk res (new ≡ map.insert old name v) → OnErr res (new ≡ old) → OpenFits r v → AllFit r old → AllFit r new
  fit_after (Ok t) old new name v ok err fits all = subst (AllFit r) (sym ok) (fit_inserted r old name v fits all)
  fit_after (Err e) old new name v ok err fits all = subst (AllFit r) (sym err) all

  pub fit_taken : (old new : Opens) (name : List ℕ) → new ≡ map.remove old name → AllFit r old → AllFit r new
  fit_taken old new name e all = subst (AllFit r) (sym e) (fit_removed r old name all)

  pub fit_found : (m : Opens) (name : List ℕ) (o : Option OpenCase) → o ≡ map.get m name → AllFit r m → IfSome o (OpenFits r)
  fit_found m name None e all = tt
  fit_found m name (Some s) e all = all name s (sym e)

  pub fits_none : (o : Option Current) → o ≡ None → CurrentFits r o
  fits_none o e c is = absurd (let q : None ≡ Some c = sym e ∙ is in cc q)

  pub fits_some : (c : Current) → PileFits r c.pile → CurrentFits r (Some c)
  fits_some c h d is = subst (PileFits r) (let q : c.pile ≡ d.pile = cc is in q) h

pub apart_none : (o : Option Current) (others : Opens) → o ≡ None → IsApart o others
apart_none o others e c is = absurd (let q : None ≡ Some c = sym e ∙ is in cc q)

-- what was kept last is the case again
pub taken_back : (s t : OpenCase) (kept : KeptCase) (pile : List KeptCase) (text : List ℕ) → s.pile ≡ pile ++ kept ∷ [] → text ≡ line (codes "undone") → t ≡ opened_as kept.case kept.reached pile → Undoes s text t
taken_back s t kept pile text last says is = inr (record { kept = kept; pile = pile; last = last; says = says; after = is })

pub ruleset piles = (pile_front, pile_last)
