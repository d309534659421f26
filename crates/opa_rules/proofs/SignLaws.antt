-- Signs of a line, one after another.
use Rattle.std.proofs.Common.{◌≡◌, ℕ, List, ◌∷◌, Option, Some, None, sym, ap, ◌∙◌}
use Rattle.std.specs.Option.{option_or, option_map}
use Rattle.opa_words.specs.declared.kinds.Token.{Token}
use Rattle.opa_sentence.specs.Lexemes.{Lexeme, lexemes}
use Rattle.opa_rules.specs.declared.faults.slip.Part.{Part}
use Rattle.opa_rules.specs.declared.faults.slip.Slip.{Slip}
use Rattle.opa_rules.specs.Faults.Brackets.{found}
use Rattle.opa_rules.specs.Faults.Signs.{sign_slip, wrong_sign}

module _ (p : Part) (text : List ℕ) (rest : List Token) (t : Token) (ts : List Token) (words : List Lexeme) (r : rest ≡ t ∷ ts) (w : words ≡ lexemes text rest) where
  at_front : (o : Option Slip) → sign_slip p words ≡ o → wrong_sign p text rest ≡ option_or (option_map (λ (s : Slip). (s, t.start)) o) (wrong_sign p text ts)
  at_front o e =
      ap (wrong_sign p text) r
      ∙ ap (λ q. option_or (option_map (λ (s : Slip). (s, t.start)) q) (wrong_sign p text ts)) (ap (sign_slip p) (sym (w ∙ ap (lexemes text) r)) ∙ e)

  pub sign_found : (s : Slip) → sign_slip p words ≡ Some s → found s rest ≡ wrong_sign p text rest
  sign_found s e = ap (found s) r ∙ sym (at_front (Some s) e)

  pub sign_on : sign_slip p words ≡ None → wrong_sign p text ts ≡ wrong_sign p text rest
  sign_on e = sym (at_front None e)
