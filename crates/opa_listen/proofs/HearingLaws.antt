-- What listeners hear, whatever their room.
use Rattle.std.proofs.Common.{◌≡◌, ℕ, List, [], ◌∷◌, map, ap, ◌∙◌, refl, sym}
use Rattle.std.specs.List.{AllZip}
use Rattle.opa_model.specs.declared.ids.AttrId.{AttrId}
use Rattle.opa_listen.specs.declared.change.Change.{Change}
use Rattle.opa_listen.specs.Listening.{ListenerView}
use Rattle.opa_listen.specs.Hearing.{Hearer, hearer, hearing}
use Rattle.opa_listen.specs.Telling.{IsButForRoom, HasRoomOf, told, AreTold}

abbrev made : List AttrId → List Change → ℕ → Hearer
made watched kept style = record { watched = watched; kept = kept; style = style }

-- equal in each part
same_hearer : (g h : Hearer) → g.watched ≡ h.watched → g.kept ≡ h.kept → g.style ≡ h.style → g ≡ h
same_hearer g h a b c =
    ap (λ (x : List AttrId). made x g.kept g.style) a ∙ ap (λ (x : List Change). made h.watched x g.style) b ∙ ap (λ (x : ℕ). made h.watched h.kept x) c

but_for_room : (v w : ListenerView) → IsButForRoom v w → hearer w ≡ hearer v
but_for_room v w h = same_hearer (hearer w) (hearer v) h.watched h.kept h.style

-- more room changes nothing of what is heard
pub same_hearers : (vs ws : List ListenerView) → AllZip HasRoomOf vs ws → map hearer ws ≡ map hearer vs
same_hearers [] [] h = refl
same_hearers [] (w ∷ ws) h = absurd h
same_hearers (v ∷ vs) [] h = absurd h
same_hearers (v ∷ vs) (w ∷ ws) h = ap (λ x. x ∷ map hearer ws) (but_for_room v w h.0.same) ∙ ap (λ xs. hearer v ∷ xs) (same_hearers vs ws h.1)

-- who is told of changes hears them
pub told_hearers : (changes : List Change) (vs ws : List ListenerView) → AreTold changes vs ws → map hearer ws ≡ map (hearing changes) (map hearer vs)
told_hearers changes [] [] h = refl
told_hearers changes [] (w ∷ ws) h = absurd h
told_hearers changes (v ∷ vs) [] h = absurd h
told_hearers changes (v ∷ vs) (w ∷ ws) h =
    ap (λ x. x ∷ map hearer ws) (but_for_room (told changes v) w h.0) ∙ ap (λ xs. hearing changes (hearer v) ∷ xs) (told_hearers changes vs ws h.1)
