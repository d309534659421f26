-- What is kept of the lines of a report, line by line.
use Rattle.std.proofs.Common.{◌≡◌, ◌⊎◌, inl, inr, ℕ, List, [], ◌∷◌, ◌++◌, Bool, true, false, cond, Option, None, Some, refl, sym, ◌∙◌, ap, subst, take, get_or, ◌<◌, length}
use Rattle.std.specs.Prelude.{◌&&◌, ◌==◌, nat_le, unwrap_or}
use Rattle.std.specs.FinMap.{FinMap, get, insert, empty, get-insert, get-empty}
use Rattle.std.specs.Option.{option_map, option_or}
use Rattle.std.proofs.lemmas.Bool.{eqb-true, eq-eqb, and_parts, and_from}
use Rattle.opa_value.specs.declared.value.Value.{Value}
use Rattle.opa_model.specs.declared.ids.AttrId.{AttrId}
use Rattle.opa_model.specs.declared.ids.RelId.{RelId}
use Rattle.opa_cells.specs.declared.instance.InstanceId.{InstanceId}
use Rattle.opa_cells.specs.Instances.{is_same}
use Rattle.opa_cells.specs.Keys.{cell_cmp}
use Rattle.opa_cells.proofs.Orders.{same_is, same_itself, cell_total, cell_exact}
use Rattle.std.specs.Ordering.{eq_by_cmp}
use Rattle.std.proofs.lemmas.Map.Views.{tells_apart}
use Rattle.opa_io.proofs.Bools.{same_truth}
use Rattle.opa_case.specs.Live.{Names}
use Rattle.opa_tree.specs.Mentions.{is_attr}
use Rattle.opa_cells.proofs.Rowed.{or_none as or_nothing}
use Rattle.opa_report.specs.declared.lines.ReportLine.{ReportLine}
use Rattle.opa_report.specs.declared.lines.ReportLine.TheVariants as line
use Rattle.opa_report.proofs.Inserting.{itself}
use Rattle.opa_verify.specs.Listed.Listings.{Listing}
use Rattle.opa_verify.specs.declared.listed.runs.Run.{Run}
use Rattle.opa_verify.specs.declared.listed.sheet.Listed.{Listed}
use Rattle.opa_verify.specs.declared.listed.sheet.Listed.TheVariants as listed
use Rattle.opa_verify.specs.declared.listed.shade.Shade.{Shade}
use Rattle.opa_verify.specs.Listed.Shades.{there, gone, shade_of}
use Rattle.opa_verify.specs.Listed.ShadeLines.{run_at, runs_at, first_there}
use Rattle.opa_verify.specs.declared.support.ledger.Told.{Told}
use Rattle.opa_verify.specs.Support.Told.{first_told, value_by, list_by, container_by, listing_of, is_rel}
use Rattle.opa_verify.specs.Support.Ledgers.{run_told, runs_told, run_by, runs_of, kept_list, list_told, told_listing, Holds, put_if_none, put_first, put_run}

-- ---- what is kept is what the lines tell

told_append : (rs qs : List Run) (d : ℕ) → runs_told (rs ++ qs) d ≡ option_or (runs_told rs d) (runs_told qs d)
told_append [] qs d = refl
told_append (r ∷ rs) qs d = go (run_told d r) (told_append rs qs d)
  where
    go : (o : Option Value) → runs_told (rs ++ qs) d ≡ option_or (runs_told rs d) (runs_told qs d) → option_or o (runs_told (rs ++ qs) d) ≡ option_or (option_or o (runs_told rs d)) (runs_told qs d)
    go None e = e
    go (Some v) e = refl

or_none : (o : Option Value) → option_or o None ≡ o
or_none None = refl
or_none (Some v) = refl

line_tells : (a : AttrId) (i : InstanceId) (d : ℕ) (x : ReportLine) → runs_told (run_by a i x) d ≡ value_by a i d x
line_tells a i d (line.Point b j s t v) = go (is_attr a b && is_same i j)
  where
    assoc : (p q r : Bool) → (p && q && r) ≡ (p && (q && r))
    assoc true q r = refl
    assoc false q r = refl

    go : (c : Bool) → runs_told (cond c (record { start = s; end = t; value = v } ∷ []) []) d ≡ cond (c && nat_le s d && nat_le d t) (Some v) None
    go true = or_none (cond (nat_le s d && nat_le d t) (Some v) None)
    go false = refl
line_tells a i d (line.Members r j names) = refl
line_tells a i d (line.Member r k j) = refl

runs_tell : (a : AttrId) (i : InstanceId) (lines : List ReportLine) (d : ℕ) → runs_told (runs_of a i lines) d ≡ first_told (value_by a i d) lines
runs_tell a i [] d = refl
runs_tell a i (x ∷ lines) d = told_append (run_by a i x) (runs_of a i lines) d ∙ ap (λ o. option_or o (runs_told (runs_of a i lines) d)) (line_tells a i d x) ∙ ap (option_or (value_by a i d x)) (runs_tell a i lines d)

list_back : (o : Option (Option Names)) → list_told (option_map kept_list o) ≡ o
list_back None = refl
list_back (Some None) = refl
list_back (Some (Some names)) = refl

pub told_is : (t : Told) (lines : List ReportLine) → Holds t lines → told_listing t ≡ listing_of lines
told_is t lines h =
    ap (λ v. let k : Listing = record { value = v; members = (told_listing t).members; container = (told_listing t).container } in k) values
    ∙ ap (λ m. let k : Listing = record { value = (listing_of lines).value; members = m; container = (told_listing t).container } in k) lists
    ∙ ap (λ c. let k : Listing = record { value = (listing_of lines).value; members = (listing_of lines).members; container = c } in k) containers
  where
    values : (told_listing t).value ≡ (listing_of lines).value
    values = λ i a j d. (ap (λ rs. runs_told rs d) (h.runs a j) ∙ runs_tell a j lines d) i

    lists : (told_listing t).members ≡ (listing_of lines).members
    lists = λ i r j. (ap list_told (h.lists r j) ∙ list_back (first_told (list_by r j) lines)) i

    containers : (told_listing t).container ≡ (listing_of lines).container
    containers = λ i j. h.containers j i

-- ---- a line more

runs_append : (a : AttrId) (i : InstanceId) (xs : List ReportLine) (x : ReportLine) → runs_of a i (xs ++ x ∷ []) ≡ runs_of a i xs ++ run_by a i x
runs_append a i [] x = nothing (run_by a i x)
  where
    nothing : (rs : List Run) → rs ++ [] ≡ rs
    nothing [] = refl
    nothing (r ∷ rs) = ap (λ qs. r ∷ qs) (nothing rs)
runs_append a i (y ∷ xs) x = ap (λ rs. run_by a i y ++ rs) (runs_append a i xs x) ∙ sym (assoc (run_by a i y) (runs_of a i xs) (run_by a i x))
  where
    assoc : (xs ys zs : List Run) → (xs ++ ys) ++ zs ≡ xs ++ (ys ++ zs)
    assoc [] ys zs = refl
    assoc (x ∷ xs) ys zs = ap (λ w. x ∷ w) (assoc xs ys zs)

first_append : {X : Type 0} (f : ReportLine → Option X) (xs : List ReportLine) (x : ReportLine) → first_told f (xs ++ x ∷ []) ≡ option_or (first_told f xs) (f x)
first_append f [] x = go (f x)
  where
    go : {X : Type 0} (o : Option X) → option_or o None ≡ o
    go None = refl
    go (Some v) = refl
first_append {X} f (y ∷ xs) x = go (f y) (first_append f xs x)
  where
    go : (o : Option X) → first_told f (xs ++ x ∷ []) ≡ option_or (first_told f xs) (f x) → option_or o (first_told f (xs ++ x ∷ [])) ≡ option_or (option_or o (first_told f xs)) (f x)
    go None e = e
    go (Some v) e = refl

same_key : (a b : ℕ) (i j : InstanceId) → eq_by_cmp cell_cmp (a, i) (b, j) ≡ ((a == b) && is_same i j)
same_key a b i j = same_truth (eq_by_cmp cell_cmp (a, i) (b, j)) ((a == b) && is_same i j)
    (λ h. let e = tells_apart cell_exact (a, i) (b, j) h in
    subst (λ (k : ℕ × InstanceId). ((a == k.0) && is_same i k.1) ≡ true) e (and_from (a == a) (is_same i i) (eq-eqb a a refl) (same_itself i)))
    (λ h. let two = and_parts (a == b) (is_same i j) h in
    let n : a ≡ b = eqb-true a b two.0 in let m : i ≡ j = same_is i j two.1 in
    subst (λ (x : ℕ). eq_by_cmp cell_cmp (a, i) (x, j) ≡ true) n (subst (λ (x : InstanceId). eq_by_cmp cell_cmp (a, i) (a, x) ≡ true) m (itself (a, i))))

got_first : {V : Type 0} (m : FinMap cell_cmp V) (k : ℕ × InstanceId) (v : V) (j : ℕ × InstanceId) → get (put_first m k v) j ≡ option_or (get m j) (cond (eq_by_cmp cell_cmp j k) (Some v) None)
got_first {V} m k v j = go (get m k) refl (eq_by_cmp cell_cmp j k) refl
  where
    at : (b : Bool) → eq_by_cmp cell_cmp j k ≡ b → get m k ≡ None → cond b (Some v) (get m j) ≡ option_or (get m j) (cond b (Some v) None)
    at true q e = sym (ap (λ o. option_or o (Some v)) (ap (get m) (tells_apart cell_exact j k q) ∙ e))
    at false q e = sym (or_nothing (get m j))

    stays : (w : V) (b : Bool) → eq_by_cmp cell_cmp j k ≡ b → get m k ≡ Some w → get m j ≡ option_or (get m j) (cond b (Some v) None)
    stays w true q e = let f = ap (get m) (tells_apart cell_exact j k q) ∙ e in f ∙ sym (ap (λ o. option_or o (Some v)) f)
    stays w false q e = sym (or_nothing (get m j))

    go : (o : Option V) → get m k ≡ o → (b : Bool) → eq_by_cmp cell_cmp j k ≡ b → get (put_if_none m k v o) j ≡ option_or (get m j) (cond b (Some v) None)
    go None e b q = get-insert cell_total m k v j ∙ ap (λ c. cond c (Some v) (get m j)) q ∙ at b q e
    go (Some w) e b q = stays w b q e

no_more : (rs : List Run) → rs ++ [] ≡ rs
no_more [] = refl
no_more (r ∷ rs) = ap (λ qs. r ∷ qs) (no_more rs)

abbrev run_of : ℕ → ℕ → Value → Run
run_of s t v = record { start = s; end = t; value = v }

module _ (old : Told) (lines : List ReportLine) (h : Holds old lines) where
  same_lists : (x : ReportLine) → ((r : RelId) (i : InstanceId) → list_by r i x ≡ None) → (r : RelId) (i : InstanceId) → get old.lists (r.0, i) ≡ option_map kept_list (first_told (list_by r i) (lines ++ x ∷ []))
  same_lists x none r i = h.lists r i ∙ ap (option_map kept_list) (sym (first_append (list_by r i) lines x ∙ ap (option_or (first_told (list_by r i) lines)) (none r i) ∙ or_nothing (first_told (list_by r i) lines)))

  same_containers : (x : ReportLine) → ((i : InstanceId) → container_by i x ≡ None) → (i : InstanceId) → get old.containers (0, i) ≡ first_told (container_by i) (lines ++ x ∷ [])
  same_containers x none i = h.containers i ∙ sym (first_append (container_by i) lines x ∙ ap (option_or (first_told (container_by i) lines)) (none i) ∙ or_nothing (first_told (container_by i) lines))

  same_runs : (x : ReportLine) → ((a : AttrId) (i : InstanceId) → run_by a i x ≡ []) → (a : AttrId) (i : InstanceId) → unwrap_or (get old.runs (a.0, i)) [] ≡ runs_of a i (lines ++ x ∷ [])
  same_runs x none a i = h.runs a i ∙ sym (runs_append a i lines x ∙ ap (λ rs. runs_of a i lines ++ rs) (none a i) ∙ no_more (runs_of a i lines))

  pub more_run : (a : AttrId) (i : InstanceId) (s t : ℕ) (v : Value) (runs : FinMap cell_cmp (List Run)) → runs ≡ put_run old.runs (a.0, i) (run_of s t v)
      → Holds (record { runs = runs; lists = old.lists; containers = old.containers }) (lines ++ line.Point a i s t v ∷ [])
  more_run a i s t v runs e = record { runs = λ b j. at b j (eq_by_cmp cell_cmp (b.0, j) (a.0, i)) refl; lists = same_lists (line.Point a i s t v) (λ r j. refl); containers = same_containers (line.Point a i s t v) (λ j. refl) }
    where
      put : (b : AttrId) (j : InstanceId) (c : Bool) → eq_by_cmp cell_cmp (b.0, j) (a.0, i) ≡ c → unwrap_or (cond c (Some (unwrap_or (get old.runs (a.0, i)) [] ++ run_of s t v ∷ [])) (get old.runs (b.0, j))) [] ≡ runs_of b j lines ++ cond c (run_of s t v ∷ []) []
      put b j true q = ap (λ (k : ℕ × InstanceId). unwrap_or (get old.runs k) [] ++ run_of s t v ∷ []) (sym (tells_apart cell_exact (b.0, j) (a.0, i) q)) ∙ ap (λ rs. rs ++ run_of s t v ∷ []) (h.runs b j)
      put b j false q = h.runs b j ∙ sym (no_more (runs_of b j lines))

      at : (b : AttrId) (j : InstanceId) (c : Bool) → eq_by_cmp cell_cmp (b.0, j) (a.0, i) ≡ c → unwrap_or (get runs (b.0, j)) [] ≡ runs_of b j (lines ++ line.Point a i s t v ∷ [])
      at b j c q =
          ap (λ m. unwrap_or (get m (b.0, j)) []) e ∙ ap (λ o. unwrap_or o []) (get-insert cell_total old.runs (a.0, i) (unwrap_or (get old.runs (a.0, i)) [] ++ run_of s t v ∷ []) (b.0, j))
          ∙ put b j (eq_by_cmp cell_cmp (b.0, j) (a.0, i)) refl
          ∙ ap (λ x. runs_of b j lines ++ cond x (run_of s t v ∷ []) []) (same_key b.0 a.0 j i) ∙ sym (runs_append b j lines (line.Point a i s t v))

  pub more_list : (r : RelId) (i : InstanceId) (names : Option Names) (lists : FinMap cell_cmp Listed) → lists ≡ put_first old.lists (r.0, i) (kept_list names)
      → Holds (record { runs = old.runs; lists = lists; containers = old.containers }) (lines ++ line.Members r i names ∷ [])
  more_list r i names lists e = record { runs = same_runs (line.Members r i names) (λ a j. refl); lists = at; containers = same_containers (line.Members r i names) (λ j. refl) }
    where
      spread : (o : Option (Option Names)) (c : Bool) → option_or (option_map kept_list o) (cond c (Some (kept_list names)) None) ≡ option_map kept_list (option_or o (cond c (Some names) None))
      spread None true = refl
      spread None false = refl
      spread (Some ns) c = refl

      at : (q : RelId) (j : InstanceId) → get lists (q.0, j) ≡ option_map kept_list (first_told (list_by q j) (lines ++ line.Members r i names ∷ []))
      at q j =
          ap (λ m. get m (q.0, j)) e ∙ got_first old.lists (r.0, i) (kept_list names) (q.0, j)
          ∙ ap (λ o. option_or o (cond (eq_by_cmp cell_cmp (q.0, j) (r.0, i)) (Some (kept_list names)) None)) (h.lists q j)
          ∙ ap (λ c. option_or (option_map kept_list (first_told (list_by q j) lines)) (cond c (Some (kept_list names)) None)) (same_key q.0 r.0 j i)
          ∙ spread (first_told (list_by q j) lines) (is_rel q r && is_same j i)
          ∙ ap (option_map kept_list) (sym (first_append (list_by q j) lines (line.Members r i names)))

  pub more_container : (q : RelId) (k i : InstanceId) (containers : FinMap cell_cmp InstanceId) → containers ≡ put_first old.containers (0, i) k
      → Holds (record { runs = old.runs; lists = old.lists; containers = containers }) (lines ++ line.Member q k i ∷ [])
  more_container q k i containers e = record { runs = same_runs (line.Member q k i) (λ a j. refl); lists = same_lists (line.Member q k i) (λ r j. refl); containers = at }
    where
      at : (j : InstanceId) → get containers (0, j) ≡ first_told (container_by j) (lines ++ line.Member q k i ∷ [])
      at j =
          ap (λ m. get m (0, j)) e ∙ got_first old.containers (0, i) k (0, j)
          ∙ ap (λ o. option_or o (cond (eq_by_cmp cell_cmp (0, j) (0, i)) (Some k) None)) (h.containers j)
          ∙ ap (λ c. option_or (first_told (container_by j) lines) (cond c (Some k) None)) (same_key 0 0 j i)
          ∙ sym (first_append (container_by j) lines (line.Member q k i))

-- nothing is kept of no lines
pub nothing_held : (t : Told) → t.runs ≡ empty → t.lists ≡ empty → t.containers ≡ empty → Holds t []
nothing_held t r l c = record {
  runs = λ a i. ap (λ m. unwrap_or (get m (a.0, i)) []) r ∙ ap (λ o. unwrap_or o []) (get-empty cell_cmp (a.0, i));
  lists = λ q i. ap (λ m. get m (q.0, i)) l ∙ get-empty cell_cmp (q.0, i);
  containers = λ i. ap (λ m. get m (0, i)) c ∙ get-empty cell_cmp (0, i);
}

-- ---- what is told over time

pub runs_shade : (rs : List Run) (d : ℕ) → runs_at rs d ≡ shade_of (runs_told rs d)
runs_shade [] d = refl
runs_shade (r ∷ rs) d = go (nat_le r.start d && nat_le d r.end) (runs_shade rs d)
  where
    go : (c : Bool) → runs_at rs d ≡ shade_of (runs_told rs d) → first_there (cond c (there r.value) gone) (runs_at rs d) ≡ shade_of (option_or (cond c (Some r.value) None) (runs_told rs d))
    go true e = refl
    go false e = e
