-- Bytes have one outcome.
use Rattle.std.proofs.Common.{◌≡◌, ◌≢◌, ℕ, Bool, List, refl, sym, ap, ◌∙◌}
use Rattle.std.specs.Prelude.{Option, None, Some}
use Rattle.serde_json.specs.Data.{Data}
use Rattle.opa_model.specs.declared.lists.Lists.{Lists}
use Rattle.opa_case.specs.Cases.{CaseView}
use Rattle.opa_saved.specs.declared.fault.LoadFault.{LoadFault}
use Rattle.opa_saved.specs.declared.fault.LoadFault.TheVariants as fault
use Rattle.opa_saved.specs.declared.loaded.Origin.{Origin}
use Rattle.opa_saved.specs.Forms.{File, file_in}
use Rattle.opa_saved.specs.Loading.{case_of, origin_of, least_of, refusals_of, IsLoaded, IsRefused, IsShapeless, HasLoadFault}
use Rattle.opa_saved.specs.Saved.{ReadsAs}
use Rattle.opa_saved.specs.LoadLaws.{OneLoaded, OneFault, LoadedOrFault}

one_value : (bytes : List ℕ) (d e : Data) → ReadsAs bytes d → ReadsAs bytes e → d ≡ e
one_value bytes d e h g = cc (sym h.1 ∙ g.1)

one_file : (bytes : List ℕ) (d e : Data) (f g : File) → ReadsAs bytes d → ReadsAs bytes e → file_in d ≡ Some f → file_in e ≡ Some g → f ≡ g
one_file bytes d e f g h k a b = cc (sym a ∙ ap file_in (one_value bytes d e h k) ∙ b)

pub one_loaded : OneLoaded
one_loaded m ruled bytes c d o p x y =
    let f = one_file bytes x.value y.value x.file y.file x.reads y.reads x.form y.form in
    (x.case ∙ ap (case_of m) f ∙ sym y.case, x.origin ∙ ap (λ (k : File). origin_of m k.version) f ∙ sym y.origin)

refused_one : (m : Lists) (ruled : List Bool) (bytes : List ℕ) (f g : LoadFault) → IsRefused m ruled bytes f → IsRefused m ruled bytes g → f ≡ g
refused_one m ruled bytes f g x y =
    let k = one_file bytes x.value y.value x.file y.file x.reads y.reads x.form y.form in
    cc (sym x.fault ∙ ap (λ (z : File). least_of (refusals_of m ruled z)) k ∙ y.fault)

shapeless_refused : (m : Lists) (ruled : List Bool) (bytes : List ℕ) (f : LoadFault) → IsShapeless bytes → IsRefused m ruled bytes f → ⊥
shapeless_refused m ruled bytes f x y = let e : ◌≡◌ {A = Option File} None (Some y.file) = sym x.2 ∙ ap file_in (one_value bytes x.0 y.value x.1 y.reads) ∙ y.form in cc e

-- a fault that isn't want of memory: there is no value, no form, or a refusal
data Cause (m : Lists) (ruled : List Bool) (bytes : List ℕ) (f : LoadFault) : Type 0 where
  no_value : f ≡ fault.NotJson → ((d : Data) → ReadsAs bytes d → ⊥) → Cause m ruled bytes f
  no_form : f ≡ fault.Shape → IsShapeless bytes → Cause m ruled bytes f
  refusal : IsRefused m ruled bytes f → Cause m ruled bytes f

cause : (m : Lists) (ruled : List Bool) (bytes : List ℕ) (f : LoadFault) → f ≢ fault.NoMemory → HasLoadFault m ruled bytes f → Cause m ruled bytes f
cause m ruled bytes fault.NotJson n h = no_value refl h
cause m ruled bytes fault.Shape n h = no_form refl h
cause m ruled bytes fault.Name n h = refusal h
cause m ruled bytes fault.Kind n h = refusal h
cause m ruled bytes fault.Range n h = refusal h
cause m ruled bytes fault.Limit n h = refusal h
cause m ruled bytes fault.NoMemory n h = absurd (n refl)

both_causes : (m : Lists) (ruled : List Bool) (bytes : List ℕ) (f g : LoadFault) → Cause m ruled bytes f → Cause m ruled bytes g → f ≡ g
both_causes m ruled bytes f g (no_value e h) (no_value k j) = e ∙ sym k
both_causes m ruled bytes f g (no_value e h) (no_form k j) = absurd (h j.0 j.1)
both_causes m ruled bytes f g (no_value e h) (refusal j) = absurd (h j.value j.reads)
both_causes m ruled bytes f g (no_form e h) (no_value k j) = absurd (j h.0 h.1)
both_causes m ruled bytes f g (no_form e h) (no_form k j) = e ∙ sym k
both_causes m ruled bytes f g (no_form e h) (refusal j) = absurd (shapeless_refused m ruled bytes g h j)
both_causes m ruled bytes f g (refusal h) (no_value k j) = absurd (j h.value h.reads)
both_causes m ruled bytes f g (refusal h) (no_form k j) = absurd (shapeless_refused m ruled bytes f j h)
both_causes m ruled bytes f g (refusal h) (refusal j) = refused_one m ruled bytes f g h j

pub one_fault : OneFault
one_fault m ruled bytes f g n o x y = both_causes m ruled bytes f g (cause m ruled bytes f n x) (cause m ruled bytes g o y)

loaded_cause : (m : Lists) (ruled : List Bool) (bytes : List ℕ) (c : CaseView) (o : Origin) (f : LoadFault) → IsLoaded m ruled bytes c o → Cause m ruled bytes f → ⊥
loaded_cause m ruled bytes c o f x (no_value e h) = h x.value x.reads
loaded_cause m ruled bytes c o f x (no_form e h) = let k : ◌≡◌ {A = Option File} None (Some x.file) = sym h.2 ∙ ap file_in (one_value bytes h.0 x.value h.1 x.reads) ∙ x.form in cc k
loaded_cause m ruled bytes c o f x (refusal h) =
    let k = one_file bytes x.value h.value x.file h.file x.reads h.reads x.form h.form in
    let e : ◌≡◌ {A = Option LoadFault} None (Some f) = sym x.faultless ∙ ap (λ (z : File). least_of (refusals_of m ruled z)) k ∙ h.fault in
    cc e

pub loaded_or_fault : LoadedOrFault
loaded_or_fault m ruled bytes c o f n x y = loaded_cause m ruled bytes c o f x (cause m ruled bytes f n y)
