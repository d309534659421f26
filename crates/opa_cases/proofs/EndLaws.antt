-- What a line of a case prints ends in a line feed, if it is anything.
use Rattle.std.proofs.Common.{◌≡◌, inl, inr, ℕ, Bool, true, false, List, [], ◌∷◌, ◌++◌, append_assoc, refl, sym, ap, ◌∙◌, subst}
use Rattle.std.specs.Prelude.{Option, None, Some, Result, Ok, Err, MatchResult, codes, flat_map, if◌then◌else◌}
use Rattle.std.specs.Fmt.{decimal}
use Rattle.opa_case.specs.Cases.{CaseView}
use Rattle.opa_case.specs.Shapes.{shape_of}
use Rattle.opa_case.specs.Steps.{step}
use Rattle.opa_case.specs.Refusals.{number_of}
use Rattle.opa_case.specs.declared.change.ChangeCommand.{ChangeCommand}
use Rattle.opa_case.specs.declared.change.Refusal.{Refusal}
use Rattle.opa_case.specs.declared.question.Question.{Question}
use Rattle.opa_cells.specs.declared.instance.InstanceId.{InstanceId}
use Rattle.opa_session.specs.Infer.Sessions.{reached}
use Rattle.opa_model.specs.declared.ids.AttrId.{AttrId}
use Rattle.opa_model.specs.declared.ids.RelId.{RelId}
use Rattle.opa_model.specs.declared.lists.Lists.{Lists}
use Rattle.opa_need.specs.Goals.{next_of}
use Rattle.opa_reply.specs.Refused.{refused_command, refused_change, fault_number}
use Rattle.opa_script.specs.declared.command.Command.{Command}
use Rattle.opa_script.specs.declared.command.Command.TheVariants as command
use Rattle.opa_script.specs.declared.fault.CmdFault.{CmdFault}
use Rattle.opa_script.specs.declared.fault.CmdFault.TheVariants as fault
use Rattle.opa_talk.specs.Lines.{EndsLine}
use Rattle.opa_talk.proofs.LinesLaws.{EndsLine-append}
use Rattle.opa_text.specs.Points.{point_text}
use Rattle.opa_reply.specs.Reporting.Asking.{question_told, next_told, asked}
use Rattle.opa_reply.specs.Reporting.Goals.{goals_told, goal_line}
use Rattle.opa_reply.specs.Reporting.Shown.{value_told, names_told, told, refused_point}
use Rattle.opa_reply.specs.Reporting.Stats.{counted, stats_told}
use Rattle.opa_tree.specs.declared.rulebase.Rulebase.{Rulebase}
use Rattle.opa_cases.specs.declared.kept.OpenCase.{OpenCase}
use Rattle.opa_cases.specs.declared.orders.Order.{Order}
use Rattle.opa_cases.specs.declared.orders.Order.TheVariants as order
use Rattle.opa_cases.specs.Scripts.{Does, Carries, Responds, Replies, Supposes, Undoes, opened_as, line}

abbrev EndsFeed : List ℕ → Type 0
EndsFeed text = (front : List ℕ) × (text ≡ front ++ 10 ∷ [])

feed : EndsFeed (10 ∷ [])
feed = ([], refl)

after : (a b : List ℕ) → EndsFeed b → EndsFeed (a ++ b)
after a b h = (a ++ h.0, ap (λ t. a ++ t) h.1 ∙ sym (append_assoc a h.0 (10 ∷ [])))

is_line : (text : List ℕ) → EndsLine (line text)
is_line text = inr (text, refl)

fed : (text : List ℕ) → EndsFeed text → EndsLine text
fed text h = inr h

either : (b : Bool) (x y : List ℕ) → EndsLine x → EndsLine y → EndsLine (if b then x else y)
either true x y h k = h
either false x y h k = k

told_ends : (phrase : List ℕ) (i : InstanceId) (what : List ℕ) → EndsLine (told phrase i what)
told_ends phrase i what = fed _ (after (point_text phrase i) _ (after (codes ": ") _ (after what _ feed)))

point_ends : EndsLine refused_point
point_ends = fed _ (after (codes "refused: point") _ feed)

value_ends : (r : Rulebase) (c : CaseView) (a : AttrId) (i : InstanceId) → EndsLine (value_told r c a i)
value_ends r c a i = either _ _ _ (told_ends _ i _) point_ends

names_ends : (r : Rulebase) (c : CaseView) (n : RelId) (i : InstanceId) → EndsLine (names_told r c n i)
names_ends r c n i = either _ _ _ (told_ends _ i _) point_ends

goal_ends : (r : Rulebase) (c : CaseView) (a : AttrId) → EndsLine (goal_line r c a)
goal_ends r c a = fed _ (after _ _ (after (codes ": ") _ (after _ _ (after (codes " (") _ (after _ _ (after (codes ")") _ feed))))))

each_goal_ends : (r : Rulebase) (c : CaseView) (goals : List AttrId) → EndsLine (flat_map (goal_line r c) goals)
each_goal_ends r c [] = inl refl
each_goal_ends r c (a ∷ goals) = EndsLine-append (goal_line r c a) (flat_map (goal_line r c) goals) (goal_ends r c a) (each_goal_ends r c goals)

goals_end : (r : Rulebase) (c : CaseView) → EndsLine (goals_told r c)
goals_end r c = each_goal_ends r c r.model.goals

question_ends : (m : Lists) (o : Option Question) → EndsLine (question_told m o)
question_ends m None = fed _ (after (codes "no question") _ feed)
question_ends m (Some q) = fed _ (after (asked m q) _ feed)

next_ends : (r : Rulebase) (c : CaseView) → EndsLine (next_told r c)
next_ends r c = question_ends r.model (next_of r c)

counted_ends : (a b c d e : ℕ) → EndsLine (counted a b c d e)
counted_ends a b c d e =
    fed _ (after (codes "instances ") _ (after (decimal a) _ (after (codes " answers ") _ (after (decimal b) _ (after (codes " lists ") _ (after (decimal c) _ (after (codes " conclusions ") _ (after (decimal d) _ (after (codes " dirty ") _ (after (decimal e) _ feed))))))))))

stats_end : (r : Rulebase) (c : CaseView) (n : ℕ) → EndsLine (stats_told r c n)
stats_end r c n = counted_ends _ _ _ _ n

command_ends : (f : CmdFault) → EndsLine (refused_command f)
command_ends f = fed _ (after (codes "refused: ") _ (after (codes "command") _ (after (codes " ") _ (after (decimal (fault_number f)) _ feed))))

change_ends : (e : Refusal) → EndsLine (refused_change e)
change_ends e = fed _ (after (codes "refused: ") _ (after (codes "change") _ (after (codes " ") _ (after (decimal (number_of e)) _ feed))))

-- ---- a line of one case

to : (text said : List ℕ) → text ≡ said → EndsLine said → EndsLine text
to text said e h = subst EndsLine (sym e) h

changes_end : (r : Rulebase) (s t : OpenCase) (k : ChangeCommand) (text : List ℕ) (o : Result CaseView Refusal)
    → MatchResult o (λ c. (text ≡ []) × (t ≡ opened_as c (reached r s.case c) s.pile)) (λ e. (text ≡ refused_change e) × (t ≡ s)) → EndsLine text
changes_end r s t k text (Ok c) h = inl h.0
changes_end r s t k text (Err e) h = to text (refused_change e) h.0 (change_ends e)

refuses_end : (text : List ℕ) → text ≡ refused_command fault.NotACommand → EndsLine text
refuses_end text e = to text _ e (command_ends fault.NotACommand)

does_end : (r : Rulebase) (s t : OpenCase) (c : Command) (text : List ℕ) → Does r s c text t → EndsLine text
does_end r s t (command.Change k) text h = changes_end r s t k text (step (shape_of r.model) r.ruled s.case k) h
does_end r s t (command.ShowAttr a i) text h = to text _ h.0 (value_ends r s.case a i)
does_end r s t (command.ShowMembers n i) text h = to text _ h.0 (names_ends r s.case n i)
does_end r s t command.Goals text h = to text _ h.0 (goals_end r s.case)
does_end r s t command.Next text h = to text _ h.0 (next_ends r s.case)
does_end r s t command.Stats text h = to text _ h.0 (stats_end r s.case s.reached)
does_end r s t command.Nothing text h = refuses_end text h.0
does_end r s t command.Screen text h = refuses_end text h.0
does_end r s t (command.Report a i d) text h = refuses_end text h.0
does_end r s t (command.Save n) text h = refuses_end text h.0
does_end r s t (command.Load n) text h = refuses_end text h.0
does_end r s t (command.Dismiss n) text h = refuses_end text h.0

supposes_end : (s t : OpenCase) (text : List ℕ) → Supposes s text t → EndsLine text
supposes_end s t text (inl h) = to text _ h.1 (is_line (codes "supposed"))
supposes_end s t text (inr h) = to text _ h.1 (is_line (codes "refused: suppose"))

undoes_end : (s t : OpenCase) (text : List ℕ) → Undoes s text t → EndsLine text
undoes_end s t text (inl h) = to text _ h.1 (is_line (codes "refused: undo"))
undoes_end s t text (inr h) = to text _ h.says (is_line (codes "undone"))

carries_end : (r : Rulebase) (s t : OpenCase) (k : Order) (text : List ℕ) (closed : Bool) → Carries r s k text closed t → EndsLine text
carries_end r s t order.Nothing text closed h = inl h.0
carries_end r s t order.Suppose text closed h = supposes_end s t text h.0
carries_end r s t order.Undo text closed h = undoes_end s t text h.0
carries_end r s t order.Close text closed h = to text _ h.0 (is_line (codes "closed"))
carries_end r s t (order.Does c) text closed h = does_end r s t c text h.0

responds_end : (r : Rulebase) (s t : OpenCase) (read : Result Order CmdFault) (text : List ℕ) (closed : Bool) → Responds r s read text closed t → EndsLine text
responds_end r s t (Ok k) text closed h = carries_end r s t k text closed h
responds_end r s t (Err f) text closed h = to text _ h.1 (command_ends f)

pub reply_ends : (r : Rulebase) (s : OpenCase) (rest text : List ℕ) (o : Option OpenCase) → Replies r s rest text o → EndsLine text
reply_ends r s rest text o h = responds_end r s h.after h.read text h.closed h.responds
