-- The cases that are open, where one of them is in the session.
use Rattle.std.proofs.Common.{◌≡◌, ◌+◌, ℕ, Bool, true, false, cond, List, refl, sym, ap, ◌∙◌, subst, is_some}
use Rattle.std.specs.Prelude.{Option, None, Some, ◌||◌}
use Rattle.std.specs.declared.sync.ledger.Ledger.{Ghosts}
use Rattle.std.specs.FinMap as map
use Rattle.std.specs.Ordering.{nat_cmp, eq_by_cmp}
use Rattle.std.specs.Cmp.{eq_by_cmp_equiv}
use Rattle.std.specs.Cmp.Lexicographic.{slice_cmp, nat_list_cmp_total}
use Rattle.std.specs.Str.{bytes_eq}
use Rattle.std.proofs.lemmas.Map.Lookups.{exact_bytes}
use Rattle.std.proofs.lemmas.Map.Views.{tells_apart}
use Rattle.std.proofs.lemmas.Map.Text.{is_eq-slice_cmp}
use Rattle.std.proofs.lemmas.Slice.Eq.{bytes_eq-Decides}
use Rattle.opa_session.specs.declared.infer.session.Session.{Session}
use Rattle.opa_tree.specs.declared.rulebase.Rulebase.{Rulebase}
use Rattle.opa_cases.specs.declared.kept.Current.{Current}
use Rattle.opa_cases.specs.declared.kept.OpenCase.{OpenCase}
use Rattle.opa_cases.specs.Caseload.{Opens, put}
use Rattle.opa_cases.specs.Holding.{opens_of, open_of, current_by, AllFit, OpenFits, IsApart, IsTurned}
use Rattle.opa_cases.specs.Scripts.{opened, fresh, left_by}

abbrev is : List ℕ → List ℕ → Bool
is q k = eq_by_cmp (slice_cmp nat_cmp) q k

itself : (k : List ℕ) → is k k ≡ true
itself k = (eq_by_cmp_equiv nat_list_cmp_total).refl k

shadowed : (b : Bool) (v w o : Option OpenCase) → cond b v (cond b w o) ≡ cond b v o
shadowed true v w o = refl
shadowed false v w o = refl

module _ (m : Opens) (k : List ℕ) where
  same_map : (n n' : Opens) → ((q : List ℕ) → map.get n q ≡ map.get n' q) → n ≡ n'
  same_map n n' h = map.same_map nat_list_cmp_total exact_bytes n n' h

  -- what is set under a name that was taken out
  pub insert-remove : (v : OpenCase) → map.insert (map.remove m k) k v ≡ map.insert m k v
  insert-remove v = same_map _ _ (λ q.
      map.get-insert nat_list_cmp_total (map.remove m k) k v q ∙ ap (cond (is q k) (Some v)) (map.get-remove nat_list_cmp_total m k q)
      ∙ shadowed (is q k) (Some v) None (map.get m q) ∙ sym (map.get-insert nat_list_cmp_total m k v q))

  -- what is taken out of a name that was just set
  pub remove-insert : (v : OpenCase) → map.remove (map.insert m k v) k ≡ map.remove m k
  remove-insert v = same_map _ _ (λ q.
      map.get-remove nat_list_cmp_total (map.insert m k v) k q ∙ ap (cond (is q k) None) (map.get-insert nat_list_cmp_total m k v q)
      ∙ shadowed (is q k) None (Some v) (map.get m q) ∙ sym (map.get-remove nat_list_cmp_total m k q))

  none_there : (o : Option OpenCase) → is_some o ≡ false → o ≡ None
  none_there None h = refl
  none_there (Some s) h = absurd (cc h)

  -- nothing is taken out of a name that isn't there
  pub remove_absent : is_some (map.get m k) ≡ false → map.remove m k ≡ m
  remove_absent none = same_map _ _ (λ q.
      map.get-remove nat_list_cmp_total m k q ∙ elim (is q k) as (λ b. is q k ≡ b → cond b None (map.get m q) ≡ map.get m q) [
        | true ↦ λ e. sym (ap (map.get m) (tells_apart exact_bytes q k e) ∙ none_there (map.get m k) none)
        | false ↦ λ e. refl
      ] refl)

  pub get_inserted : (v : OpenCase) → map.get (map.insert m k v) k ≡ Some v
  get_inserted v = map.get-insert nat_list_cmp_total m k v k ∙ ap (λ b. cond b (Some v) (map.get m k)) (itself k)

  pub gone : is_some (map.get (map.remove m k) k) ≡ false
  gone = ap is_some (map.get-remove nat_list_cmp_total m k k ∙ ap (λ b. cond b None (map.get m k)) (itself k))

  pub len_inserted : (v : OpenCase) → is_some (map.get m k) ≡ false → map.len (map.insert m k v) ≡ map.len m + 1
  len_inserted v none = map.len-insert nat_list_cmp_total m k v ∙ ap (λ b. cond b (map.len m) (map.len m + 1)) none

or_there : (b : Bool) (v : OpenCase) (o : Option OpenCase) → (b || is_some o) ≡ is_some (cond b (Some v) o)
or_there true v o = refl
or_there false v o = refl

-- a name is open if it is the session's, or among the others
pub has_with : (m : Opens) (k q : List ℕ) (v : OpenCase) → (bytes_eq k q || is_some (map.get m q)) ≡ is_some (map.get (map.insert m k v) q)
has_with m k q v =
    ap (λ b. b || is_some (map.get m q)) (sym (is_eq-slice_cmp k q) ∙ (eq_by_cmp_equiv nat_list_cmp_total).symm k q)
    ∙ or_there (is q k) v (map.get m q) ∙ ap is_some (sym (map.get-insert nat_list_cmp_total m k v q))

-- ---- turning to a name

module _ {L : Type 0} {G : Ghosts L} (s : Session L G) (c : Current) (others : Opens) (name : List ℕ) where
  -- the session holds its case already
  pub turned_there : c.name ≡ name → is_some (map.get others c.name) ≡ false → IsTurned name (map.insert others c.name (open_of s c)) s others c
  turned_there same apart =
      let P : List ℕ → Type 0 = λ n. IsTurned n (map.insert others c.name (open_of s c)) s others c in
      subst P same (record {
        named = refl;
        rest = sym (remove-insert others c.name (open_of s c) ∙ remove_absent others c.name apart);
        same = sym (ap opened (get_inserted others c.name (open_of s c)));
      })

-- the session's case is the one that is asked for
pub turned_current : {L : Type 0} {G : Ghosts L} (s : Session L G) (o : Option Current) (c : Current) (others : Opens) (name : List ℕ) → o ≡ Some c → bytes_eq c.name name ≡ true → IsApart o others → IsTurned name (opens_of s o others) s others c
turned_current s o c others name e same apart =
    let P : Option Current → Type 0 = λ x. IsTurned name (opens_of s x others) s others c in
    subst P (sym e) (turned_there s c others name ((bytes_eq-Decides c.name name).0 same) (apart c e))

pub turned_beside : {L : Type 0} {G : Ghosts L} (s t : Session L G) (o : Option Current) (others laid rest : Opens) (c : Current) (name : List ℕ) → laid ≡ opens_of s o others → IsTurned name laid t rest c → IsTurned name (opens_of s o others) t rest c
turned_beside s t o others laid rest c name e h = let P : Opens → Type 0 = λ m. IsTurned name m t rest c in subst P e h

-- no case is the session's
pub opens_none : {L : Type 0} {G : Ghosts L} (s : Session L G) (o : Option Current) (others : Opens) → o ≡ None → others ≡ opens_of s o others
opens_none s o others e = ap (λ x. opens_of s x others) (sym e)

pub opens_laid : {L : Type 0} {G : Ghosts L} (s : Session L G) (o : Option Current) (c : Current) (others laid : Opens) → o ≡ Some c → laid ≡ map.insert others c.name (open_of s c) → laid ≡ opens_of s o others
opens_laid s o c others laid e h = h ∙ ap (λ x. opens_of s x others) (sym e)

module _ {L : Type 0} {G : Ghosts L} (s : Session L G) (o : Option Current) (c : Current) (others : Opens) (e : o ≡ Some c) where
  pub has_some : (name : List ℕ) → (bytes_eq c.name name || is_some (map.get others name)) ≡ is_some (map.get (opens_of s o others) name)
  has_some name = has_with others c.name name (open_of s c) ∙ ap (λ x. is_some (map.get (opens_of s x others) name)) (sym e)

  pub count_some : is_some (map.get others c.name) ≡ false → map.len others + 1 ≡ map.len (opens_of s o others)
  count_some apart = sym (len_inserted others c.name (open_of s c) apart) ∙ ap (λ x. map.len (opens_of s x others)) (sym e)

-- ---- what is open after a line

module _ {L : Type 0} {G : Ghosts L} (before : Opens) (name : List ℕ) (s : Session L G) (others : Opens) where
  pub after_line : (closed : Bool) (c : Current) → others ≡ map.remove before name → c.name ≡ name → opens_of s (current_by closed c) others ≡ put before name (left_by closed (open_of s c))
  after_line true c rest named = rest
  after_line false c rest named =
      ap (λ n. map.insert others n (open_of s c)) named ∙ ap (λ o. map.insert o name (open_of s c)) rest ∙ insert-remove before name (open_of s c)

  pub apart_after : (c : Current) → others ≡ map.remove before name → c.name ≡ name → is_some (map.get others c.name) ≡ false
  apart_after c rest named = ap (λ n. is_some (map.get others n)) named ∙ ap (λ o. is_some (map.get o name)) rest ∙ gone before name

-- the others haven't the name of a case that becomes the session's
pub apart_some : (c : Current) (others : Opens) → is_some (map.get others c.name) ≡ false → IsApart (Some c) others
apart_some c others h d e = let same : c.name ≡ d.name = cc e in subst (λ n. is_some (map.get others n) ≡ false) same h

-- ---- all fit

module _ (r : Rulebase) where
  same_open : (v s : OpenCase) → Some v ≡ Some s → v ≡ s
  same_open v s e = cc e

  pub fit_inserted : (m : Opens) (k : List ℕ) (v : OpenCase) → OpenFits r v → AllFit r m → AllFit r (map.insert m k v)
  fit_inserted m k v fits all q s e =
      let got = sym (map.get-insert nat_list_cmp_total m k v q) ∙ e in
      elim (is q k) as (λ b. cond b (Some v) (map.get m q) ≡ Some s → OpenFits r s) [
        | true ↦ λ h. subst (OpenFits r) (same_open v s h) fits
        | false ↦ λ h. all q s h
      ] got

  pub fit_removed : (m : Opens) (k : List ℕ) → AllFit r m → AllFit r (map.remove m k)
  fit_removed m k all q s e =
      let got = sym (map.get-remove nat_list_cmp_total m k q) ∙ e in
      elim (is q k) as (λ b. cond b None (map.get m q) ≡ Some s → OpenFits r s) [
        | true ↦ λ h. absurd (cc h)
        | false ↦ λ h. all q s h
      ] got

  pub fit_empty : AllFit r map.empty
  fit_empty q s e = absurd (let h : None ≡ Some s = sym (map.get-empty (slice_cmp nat_cmp) q) ∙ e in cc h)

  pub fit_opened : (m : Opens) (k : List ℕ) (o : Option OpenCase) → map.get m k ≡ o → OpenFits r fresh → AllFit r m → OpenFits r (opened o)
  fit_opened m k None e new all = new
  fit_opened m k (Some s) e new all = all k s e
