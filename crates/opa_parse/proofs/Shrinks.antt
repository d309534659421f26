-- Each move leaves fewer lines, or no more where something was read.
use Rattle.std.proofs.Common.{◌≡◌, ℕ, ◌<◌, ◌≤◌, List, [], ◌∷◌, length, Bool, true, false, ◌==◌, Option, Some, None, if◌then◌else◌, nat_lt, subst, arith}
use Rattle.opa_sentence.specs.declared.reading.Reading.{Reading}
use Rattle.opa_sentence.specs.Moves.{fail, done, next, call}
use Rattle.opa_parse.specs.declared.line.Ending.{Ending}
use Rattle.opa_parse.specs.declared.line.Ending.TheVariants as ending
use Rattle.opa_parse.specs.declared.line.Head.{Head}
use Rattle.opa_parse.specs.declared.line.Line.{Line}
use Rattle.opa_parse.specs.declared.group.Cases.{Cases}
use Rattle.opa_parse.specs.declared.group.Frame.{Frame}
use Rattle.opa_parse.specs.declared.group.Front.{Front}
use Rattle.opa_parse.specs.declared.group.Group.{Group}
use Rattle.opa_parse.specs.declared.group.Items.{Items}
use Rattle.opa_parse.specs.declared.group.Said.{Said}
use Rattle.opa_parse.specs.declared.group.Sort.{Sort}
use Rattle.opa_parse.specs.declared.group.Sort.TheVariants as sort
use Rattle.opa_parse.specs.Groups.{is_deeper}
use Rattle.opa_parse.specs.GroupTable.{Step, go_on, after_line, line_item, head_item, item, connector, after_group, case_line, first_case, last_line, next_case, production}
use Rattle.opa_parse.specs.Sayings.{of_line, no_cases}

-- a move over so many lines leaves fewer, or no more where it is done
abbrev pub Shrinks : ℕ → Step → Type 0
Shrinks n fail = Unit {0}
Shrinks n (done g rest) = length rest ≤ n
Shrinks n (next s rest) = length rest < n
Shrinks n (call s k mid) = length mid < n

either : (n : ℕ) (b : Bool) (x y : Step) → Shrinks n x → Shrinks n y → Shrinks n (if b then x else y)
either n true x y p q = p
either n false x y p q = q

go_on_less : (n k : ℕ) (f : Option Front) (ls : List Line) → length ls < n → Shrinks n (go_on k f ls)
go_on_less n k None ls h = tt
go_on_less n k (Some f) ls h = h

after_line_less : (n : ℕ) (i : Items) (s : Said) (e : Ending) (ls : List Line) → length ls < n → Shrinks n (after_line i s e ls)
after_line_less n i s ending.Nothing ls h = omega arith
after_line_less n i s ending.And ls h = go_on_less n i.level _ ls h
after_line_less n i s ending.Or ls h = go_on_less n i.level _ ls h
after_line_less n i s ending.If ls h = tt
after_line_less n i s ending.Otherwise ls h = tt

line_item_less : (n : ℕ) (i : Items) (l : Line) (x : Option Reading) (ls : List Line) → length ls < n → Shrinks n (line_item i l x ls)
line_item_less n i l None ls h = tt
line_item_less n i l (Some x) ls h = after_line_less n i (of_line l.number x) l.ending ls h

head_item_less : (n : ℕ) (i : Items) (l : Line) (e : Ending) (x : Option Head) (ls : List Line) → length ls < n → Shrinks n (head_item i l e x ls)
head_item_less n i l ending.Nothing None ls h = tt
head_item_less n i l ending.Nothing (Some x) ls h = h
head_item_less n i l ending.And x ls h = tt
head_item_less n i l ending.Or x ls h = tt
head_item_less n i l ending.If x ls h = tt
head_item_less n i l ending.Otherwise x ls h = tt

item_less : (i : Items) (ls : List Line) → Shrinks (length ls) (item i ls)
item_less i [] = tt
item_less i (l ∷ ls) =
    let h : length ls < length (l ∷ ls) = omega arith in
    either _ (l.level == i.level) _ fail (either _ (is_deeper i.level ls) _ _ (head_item_less _ i l l.ending l.head ls h) (line_item_less _ i l l.says ls h)) tt

connector_less : (n : ℕ) (i : Items) (s : Said) (e : Ending) (ls : List Line) → length ls < n → Shrinks n (connector i s e ls)
connector_less n i s ending.Nothing ls h = tt
connector_less n i s ending.And ls h = go_on_less n i.level _ ls h
connector_less n i s ending.Or ls h = go_on_less n i.level _ ls h
connector_less n i s ending.If ls h = tt
connector_less n i s ending.Otherwise ls h = tt

after_group_less : (i : Items) (s : Said) (ls : List Line) → Shrinks (length ls) (after_group i s ls)
after_group_less i s [] = omega arith
after_group_less i s (l ∷ ls) =
    let h : length ls < length (l ∷ ls) = omega arith in
    let same : length (l ∷ ls) ≤ length (l ∷ ls) = omega arith in
    either _ (nat_lt l.level i.level) _ _ same (either _ (l.level == i.level) _ fail (either _ l.is_bare _ fail (connector_less _ i s l.ending ls h) tt) tt)

case_line_less : (n : ℕ) (cs : Cases) (l : Line) (e : Ending) (x : Option Reading) (ls : List Line) → length ls < n → Shrinks n (case_line cs l e x ls)
case_line_less n cs l ending.Nothing x ls h = tt
case_line_less n cs l ending.And x ls h = tt
case_line_less n cs l ending.Or x ls h = tt
case_line_less n cs l ending.If None ls h = tt
case_line_less n cs l ending.If (Some x) ls h = h
case_line_less n cs l ending.Otherwise x ls h = tt

first_case_less : (ls : List Line) → Shrinks (length ls) (first_case ls)
first_case_less [] = tt
first_case_less (l ∷ ls) =
    let h : length ls < length (l ∷ ls) = omega arith in
    either _ (l.level == 1) _ fail (case_line_less _ no_cases l l.ending l.says ls h) tt

last_line_less : (n : ℕ) (cs : Cases) (l : Line) (e : Ending) (x : Option Reading) (ls : List Line) → length ls < n → Shrinks n (last_line cs l e x ls)
last_line_less n cs l ending.Nothing x ls h = tt
last_line_less n cs l ending.And x ls h = tt
last_line_less n cs l ending.Or x ls h = tt
last_line_less n cs l ending.If None ls h = tt
last_line_less n cs l ending.If (Some x) ls h = h
last_line_less n cs l ending.Otherwise None ls h = tt
last_line_less n cs l ending.Otherwise (Some x) ls h = omega arith

next_case_less : (cs : Cases) (ls : List Line) → Shrinks (length ls) (next_case cs ls)
next_case_less cs [] = tt
next_case_less cs (l ∷ ls) =
    let h : length ls < length (l ∷ ls) = omega arith in
    either _ (l.level == 1) _ fail (last_line_less _ cs l l.ending l.says ls h) tt

shrinks : (s : Sort) (ls : List Line) → Shrinks (length ls) (production s ls)
shrinks (sort.Item i) ls = item_less i ls
shrinks (sort.After i s) ls = after_group_less i s ls
shrinks sort.FirstCase ls = first_case_less ls
shrinks (sort.Case cs) ls = next_case_less cs ls
shrinks sort.Wrong ls = tt

pub done_less : (s : Sort) (ls : List Line) (g : Group) (rest : List Line) → production s ls ≡ done g rest → length rest ≤ length ls
done_less s ls g rest p = subst (Shrinks (length ls)) p (shrinks s ls)

pub next_less : (s : Sort) (ls : List Line) (t : Sort) (rest : List Line) → production s ls ≡ next t rest → length rest < length ls
next_less s ls t rest p = subst (Shrinks (length ls)) p (shrinks s ls)

pub call_less : (s : Sort) (ls : List Line) (t : Sort) (k : Frame) (mid : List Line) → production s ls ≡ call t k mid → length mid < length ls
call_less s ls t k mid p = subst (Shrinks (length ls)) p (shrinks s ls)
