use Rattle.std.proofs.Common.{◌∙◌, sym, arith, get_or, ◌∷◌, length, vec_items}
use Rattle.std.proofs.lemmas.Iterator.Splits.{YieldsList-from_str_split}
use Rattle.std.proofs.lemmas.Iterator.Consumers.{YieldsList-turn, YieldsList-end}
use Rattle.std.proofs.lemmas.List.{length_push}
use Rattle.ig_show_trees.proofs.CursorTexts.{is_piece, many_pieces, one_more, all_numbers}
use Rattle.ig_show_trees.proofs.cursor_text.read_numbers.Goals as goal

pub returns-in_default : goal.returns-in_default
returns-in_default c =
    λ n ns short e.
    let t = YieldsList-turn (YieldsList-from_str_split 46 c.args.word.now (omega arith) (cc) (cc) (cc)) c.loop-piece.yielded _ c.loop-piece.yielded_by _ _ c.in-Some.piece c.in-Some.is c.next.ensures.steps in
    let p = is_piece n ns c.args.word.now (length c.loop-piece.yielded) c.in-Some.piece.now short e t in
    absurd (c.in_default.not-Some _ (c.read_number.ensures (get_or (n ∷ ns) (length c.loop-piece.yielded) 0) p.small p.spelled))

pub loop-piece-preserved : goal.loop-piece-preserved
loop-piece-preserved c = (
  tt,
  tt,
  λ n ns short e.
      let t = YieldsList-turn (YieldsList-from_str_split 46 c.args.word.now (omega arith) (cc) (cc) (cc)) c.loop-piece.yielded _ c.loop-piece.yielded_by _ _ c.in-Some.piece c.in-Some.is c.next.ensures.steps in
      let p = is_piece n ns c.args.word.now (length c.loop-piece.yielded) c.in-Some.piece.now short e t in
      let r = c.read_number.ensures (get_or (n ∷ ns) (length c.loop-piece.yielded) 0) p.small p.spelled in
      one_more n ns (vec_items c.loop-piece.numbers) (vec_items c.push.new.self) (length c.loop-piece.yielded) _ c.in-Some-read_number.number p
      (c.loop-piece.invariant.2 n ns short e) (length_push c.loop-piece.yielded c.in-Some.piece) (sym r ∙ c.in-Some-read_number.is) c.in_ok-push.ensures.items,
)

pub returns : goal.returns
returns c =
    λ n ns short e.
    let t = YieldsList-end (YieldsList-from_str_split 46 c.args.word.now (omega arith) (cc) (cc) (cc)) c.loop-piece.yielded _ c.loop-piece.yielded_by _ _ c.in-None.is c.next.ensures.steps in
    all_numbers n ns (vec_items c.loop-piece.numbers) (length c.loop-piece.yielded) (c.loop-piece.invariant.2 n ns short e)
    (t.1 ∙ many_pieces n ns c.args.word.now short e)
