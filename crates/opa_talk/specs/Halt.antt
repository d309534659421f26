-- Why a talk halts before its end, and with which status a program ends.
use Rattle.std.specs.Prelude.{ℕ, Result, Ok, Err}
use Rattle.opa_io.specs.Outside.{Rose}
use Rattle.opa_io.specs.declared.fault.Status.{Status}
use Rattle.opa_io.specs.declared.fault.Status.TheVariants as status
use Rattle.opa_talk.specs.declared.halt.Halt.{Halt}
use Rattle.opa_talk.specs.declared.halt.Halt.TheVariants as halt

-- A reply halts where taking or keeping a file failed, or for want of memory.
abbrev pub IsReplyCause : ℕ → ℕ → ℕ → ℕ → Halt → Type 0
IsReplyCause take take' keep keep' halt.Input = ⊥
IsReplyCause take take' keep keep' halt.Output = ⊥
IsReplyCause take take' keep keep' halt.Take = Rose take take'
IsReplyCause take take' keep keep' halt.Keep = Rose keep keep'
IsReplyCause take take' keep keep' halt.Memory = Unit {0}
IsReplyCause take take' keep keep' halt.Limit = ⊥

-- Carrying out a line halts there, or where the sink failed.
abbrev pub IsLineCause : ℕ → ℕ → ℕ → ℕ → ℕ → ℕ → Halt → Type 0
IsLineCause take take' keep keep' output output' halt.Input = ⊥
IsLineCause take take' keep keep' output output' halt.Output = Rose output output'
IsLineCause take take' keep keep' output output' halt.Take = Rose take take'
IsLineCause take take' keep keep' output output' halt.Keep = Rose keep keep'
IsLineCause take take' keep keep' output output' halt.Memory = Unit {0}
IsLineCause take take' keep keep' output output' halt.Limit = ⊥

-- A talk halts there, where the source failed, or where its input is too long.
abbrev pub IsCause : ℕ → ℕ → ℕ → ℕ → ℕ → ℕ → ℕ → ℕ → Halt → Type 0
IsCause take take' keep keep' output output' input input' halt.Input = Rose input input'
IsCause take take' keep keep' output output' input input' halt.Output = Rose output output'
IsCause take take' keep keep' output output' input input' halt.Take = Rose take take'
IsCause take take' keep keep' output output' input input' halt.Keep = Rose keep keep'
IsCause take take' keep keep' output output' input input' halt.Memory = Unit {0}
IsCause take take' keep keep' output output' input input' halt.Limit = Unit {0}

-- the status of a program whose talk ended so, or halted
abbrev pub end_of : Result (Unit {0}) Halt → Status
end_of (Ok u) = status.Done
end_of (Err halt.Input) = status.ReadFault
end_of (Err halt.Output) = status.WriteFault
end_of (Err halt.Take) = status.ReadFault
end_of (Err halt.Keep) = status.WriteFault
end_of (Err halt.Memory) = status.NoMemory
end_of (Err halt.Limit) = status.InputLimit
