use Rattle.cn_cli.proofs.Common.{◌≡◌, refl, sym, ◌∙◌, ap, string_bytes, decimal}
use Rattle.std.proofs.lemmas.Slice.Eq.{bytes_eq-Decides}
use Rattle.cn_cli.proofs.WordNumbers.{no_other, parsed-number}
use Rattle.cn_cli.proofs.choices.number_named.Goals as goal

pub returns-in_default : goal.returns-in_default
returns-in_default c number fits e = c.in_default.not-Ok number
    (parsed-number number c.args.word.now c.parse.result fits e c.parse.ensures.value.0)

pub returns : goal.returns
returns c number fits e =
    let same : c.in-Ok.number ≡ number = no_other number c.in-Ok.number c.args.word.now c.parse.result fits e c.parse.ensures.value.0
    c.in-Ok.is in
    let digits : string_bytes c.in_ok-digits.digits ≡ c.args.word.now = c.in_ok-digits.ensures.ok ∙ ap decimal same ∙ sym e in
    let unequal = rw (c.as_str.ensures.value, digits) at c.if-eq.ensures in
    cc (unequal ∙ (bytes_eq-Decides c.args.word.now c.args.word.now).1 refl)
