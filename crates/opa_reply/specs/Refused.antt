-- How refusals are printed.
use Rattle.std.specs.Prelude.{ℕ, List, [], ◌∷◌, ◌++◌, codes}
use Rattle.std.specs.Fmt.{decimal}
use Rattle.opa_case.specs.declared.change.Refusal.{Refusal}
use Rattle.opa_case.specs.Refusals.{number_of}
use Rattle.opa_script.specs.declared.fault.CmdFault.{CmdFault}
use Rattle.opa_script.specs.declared.fault.CmdFault.TheVariants as fault

-- `refused: WHAT N`
abbrev pub refused : List ℕ → ℕ → List ℕ
refused what n = codes "refused: " ++ (what ++ (codes " " ++ (decimal n ++ 10 ∷ [])))

-- the number of a fault: want of memory, which is never printed, has none
abbrev pub fault_number : CmdFault → ℕ
fault_number fault.NotACommand = 1
fault_number fault.Name = 2
fault_number fault.Value = 3
fault_number fault.NoMemory = 0

abbrev pub refused_command : CmdFault → List ℕ
refused_command f = refused (codes "command") (fault_number f)

abbrev pub refused_change : Refusal → List ℕ
refused_change e = refused (codes "change") (number_of e)

-- where no listener has the number
abbrev pub refused_dismiss : List ℕ
refused_dismiss = codes "refused: dismiss" ++ 10 ∷ []
