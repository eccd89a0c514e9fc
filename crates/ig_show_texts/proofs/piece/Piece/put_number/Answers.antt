use Rattle.std.proofs.Common.{rules, ◌≡◌, ◌≤◌, ◌∙◌, ◌-◌, ap, arith, drop, length, length-drop, decimal}
use Rattle.ig_show_texts.proofs.Pieces.{short_decimal, ten_more}
use Rattle.ig_show_texts.proofs.piece.Piece.put_number.Goals as goal

pub write_digits-self-inside-requires : goal.write_digits-self-inside-requires
write_digits-self-inside-requires c =
    let shown : c.args.self.now ≡ drop c.self.inside.start c.self.inside.bytes = search rules in
    let long : length c.args.self.now ≡ length c.self.inside.bytes - c.self.inside.start = ap length shown ∙ length-drop _ _ in
    let whole : length c.self.inside.bytes ≡ 96 = search rules in
    let short : length (decimal c.from.result) ≤ 10 = search (rules, short_decimal c.args.number c.ranges.number.fits) in
    (omega (arith, short, long, whole, c.requires.room), search rules)

pub returns-clause-short : goal.returns-clause-short
returns-clause-short c = ten_more c.args.number c.args.self.now c.ranges.number.fits (search rules)
