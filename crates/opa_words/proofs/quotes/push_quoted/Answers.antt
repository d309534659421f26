use Rattle.std.proofs.Common.{◌≡◌, ◌∙◌, ◌++◌, ◌∷◌, [], rules, ap, append_assoc}
use Rattle.std.specs.String.{string_bytes}
use Rattle.opa_words.specs.Kinds.{quoted, doubled}
use Rattle.opa_words.proofs.QuoteLaws.{quote_goes, quote_ends}
use Rattle.opa_words.proofs.quotes.push_quoted.Goals as goal

pub loop-front-init : goal.loop-front-init
loop-front-init c = record {
  utf8 = search rules;
  same = ap (λ s. s ++ (doubled c.args.text.now ++ 34 ∷ [])) c.in_ok-push_str.ensures.bytes ∙ append_assoc (string_bytes c.args.out.now) (34 ∷ []) (doubled c.args.text.now ++ 34 ∷ []);
}

pub loop-front-preserved : goal.loop-front-preserved
loop-front-preserved c = record {
  utf8 = search rules;
  same = quote_goes (string_bytes c.loop-front.out) c.loop-front.rest.now c.in-Some.front.now c.in-Some.later.now (string_bytes c.args.out.now ++ quoted c.args.text.now) (string_bytes c.push_str-in-Some.new.self) (string_bytes c.push_str-in-Some-2.new.self) c.loop-front.invariant.same c.in-Some.ensures
      c.in_ok-push_str-2.ensures.bytes c.in_ok-push_str-3.ensures.bytes;
}

pub returns : goal.returns
returns c =
    quote_ends (string_bytes c.loop-front.out) c.loop-front.rest.now (string_bytes c.args.out.now ++ quoted c.args.text.now) (string_bytes c.push_str-2.new.self) (string_bytes c.push_str-3.new.self) c.loop-front.invariant.same c.in_default.ensures
    c.in_ok-push_str-4.ensures.bytes c.in_ok-push_str-5.ensures.bytes
