-- The faults of membership blocks.
use Rattle.std.specs.Prelude.{ℕ, ◌+◌, Bool, false, nat_lt, is_none, List, [], ◌∷◌, ◌++◌, length, Option, Some, None}
use Rattle.std.specs.List.{list_any}
use Rattle.std.specs.Str.{bytes_eq}
use Rattle.opa_tree.specs.declared.faults.RbFault.{RbFault}
use Rattle.opa_tree.specs.declared.faults.RbKind.TheVariants as kind
use Rattle.opa_parse.specs.declared.block.MemberBlock.{MemberBlock}
use Rattle.opa_parse.specs.declared.block.Membership.{Membership}
use Rattle.opa_io.specs.declared.limits.TheConstants.{MOST_PHRASE}
use Rattle.opa_parse.specs.RuleFaults.{fault_at, when, marked, size_faults}

-- one of the texts is this phrase
abbrev pub is_taken : List (List ℕ) → List ℕ → Bool
is_taken texts phrase = list_any (bytes_eq phrase) texts

-- the faults of what a membership block says, whose phrase is taken or isn't, where so many nodes stand before
abbrev pub membership_faults : Bool → ℕ → ℕ → ℕ → Membership → List RbFault
membership_faults taken nodes file line s =
    (when (nat_lt MOST_PHRASE (length s.phrase)) (fault_at file line kind.Limit) ++ size_faults nodes file line s.said.reading)
    ++ ((when (is_none s.every) (fault_at file line kind.Name) ++ marked file s.said.marks) ++ when taken (fault_at file line kind.Twice))

abbrev pub spelled_faults : Bool → ℕ → ℕ → ℕ → Option Membership → List RbFault
spelled_faults taken nodes file line None = fault_at file line kind.Syntax ∷ []
spelled_faults taken nodes file line (Some s) = membership_faults taken nodes file line s

abbrev pub block_faults : Bool → ℕ → MemberBlock → List RbFault
block_faults taken nodes b = spelled_faults taken nodes b.file b.line b.membership

-- whether one of the texts is the block's phrase
abbrev pub is_taken_by : List (List ℕ) → Option Membership → Bool
is_taken_by texts None = false
is_taken_by texts (Some s) = is_taken texts s.phrase

abbrev pub membership_nodes : Option Membership → ℕ
membership_nodes None = 0
membership_nodes (Some s) = s.said.reading.measure.nodes

-- the phrase, if the block is spelled
abbrev pub phrase_by : Option Membership → List (List ℕ)
phrase_by None = []
phrase_by (Some s) = s.phrase ∷ []

-- the faults of membership blocks in their order, where these texts are taken and so many nodes stand before
abbrev pub faults_from : List (List ℕ) → ℕ → List MemberBlock → List RbFault
faults_from texts nodes [] = []
faults_from texts nodes (b ∷ bs) = block_faults (is_taken_by texts b.membership) nodes b ++ faults_from (texts ++ phrase_by b.membership) (nodes + membership_nodes b.membership) bs
