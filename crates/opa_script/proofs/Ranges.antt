-- What a command names is declared.
use Rattle.std.proofs.Common.{◌≡◌, inl, inr, ℕ, List, sym, subst}
use Rattle.std.proofs.lemmas.Option.{slice_get_within}
use Rattle.opa_date.proofs.ReadTexts.{only_texts_are_read}
use Rattle.opa_model.specs.declared.ids.AttrId.{AttrId}
use Rattle.opa_model.specs.declared.ids.EntityId.{EntityId}
use Rattle.opa_model.specs.declared.ids.RelId.{RelId}
use Rattle.opa_model.specs.declared.lists.Lists.{Lists}
use Rattle.opa_model.specs.Models.{HasAttribute, HasRelation}
use Rattle.opa_cells.specs.declared.instance.InstanceId.{InstanceId}
use Rattle.opa_words.specs.Pieces.{Piece}
use Rattle.opa_script.specs.declared.command.Command.{Command}
use Rattle.opa_script.specs.declared.command.Command.TheVariants as command
use Rattle.opa_text.specs.declared.pointed.Point.{Point}
use Rattle.opa_script.specs.declared.verbs.Verb.{Verb}
use Rattle.opa_script.specs.declared.verbs.Verb.TheVariants as verb
use Rattle.opa_script.specs.Commands.{HasEntityOf, HasSourceOf, NamesAttribute, NamesRelation, Shows, Says, IsCommand}
use Rattle.opa_script.specs.Laws.{IsInRange, CommandsAreInRange}

module _ (m : Lists) where
  has_attribute : (a : AttrId) (e : EntityId) → HasEntityOf m a e → HasAttribute m a
  has_attribute a e h = slice_get_within m.attributes a.0 h.0 h.1

  has_relation : (r : RelId) (e : EntityId) → HasSourceOf m r e → HasRelation m r
  has_relation r e h = slice_get_within m.relations r.0 h.0 h.1

  names_attribute : (p : Point) (a : AttrId) (i : InstanceId) → NamesAttribute m p a i → HasAttribute m a
  names_attribute p a i n = has_attribute a n.1.0 n.1.1

  names_relation : (p : Point) (r : RelId) (i : InstanceId) → NamesRelation m p r i → HasRelation m r
  names_relation p r i n = has_relation r n.1.0 n.1.1

  pub same_range : (c d : Command) → c ≡ d → IsInRange m d → IsInRange m c
  same_range c d e h = subst (IsInRange m) (sym e) h

  shows_in_range : (p : Point) (c : Command) → Shows m p c → IsInRange m c
  shows_in_range p c (inl s) = same_range c (command.ShowAttr s.0 s.1) s.3 (names_attribute p s.0 s.1 s.2)
  shows_in_range p c (inr s) = same_range c (command.ShowMembers s.0 s.1) s.3 (names_relation p s.0 s.1 s.2)

  says_in_range : (v : Verb) (ps : List Piece) (c : Command) → Says m v ps c → IsInRange m c
  says_in_range verb.Answer ps c (p, after, a, i, l, given, names, spells, e) = same_range c _ e (names_attribute p a i names)
  says_in_range verb.Withdraw ps c (p, a, i, spells, names, e) = same_range c _ e (names_attribute p a i names)
  says_in_range verb.SetList ps c (p, after, r, i, ns, given, names, spells, e) = same_range c _ e (names_relation p r i names)
  says_in_range verb.Forget ps c (p, r, i, spells, names, e) = same_range c _ e (names_relation p r i names)
  says_in_range verb.Show ps c (p, spells, shows) = shows_in_range p c shows
  says_in_range verb.Report ps c (p, t, a, i, d, spells, names, day, e) = same_range c _ e (names_attribute p a i names, (only_texts_are_read t d day).0)
  says_in_range verb.Save ps c (t, is, name, e) = same_range c _ e tt
  says_in_range verb.Load ps c (t, is, name, e) = same_range c _ e tt
  says_in_range verb.Dismiss ps c (t, n, is, count, e) = same_range c _ e tt
  says_in_range verb.Goals ps c (is, e) = same_range c _ e tt
  says_in_range verb.Next ps c (is, e) = same_range c _ e tt
  says_in_range verb.Screen ps c (is, e) = same_range c _ e tt
  says_in_range verb.Stats ps c (is, e) = same_range c _ e tt

  in_range : (line : List ℕ) (c : Command) → IsCommand m line c → IsInRange m c
  in_range line c (inl h) = same_range c command.Nothing h.1 tt
  in_range line c (inr h) = let r = h.1.2 in says_in_range r.0 r.1 c r.3.1

pub command_in_range : CommandsAreInRange
command_in_range m line c h = in_range m line c h
