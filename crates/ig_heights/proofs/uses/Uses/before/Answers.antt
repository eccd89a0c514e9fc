use Rattle.std.proofs.Common.{refl, inl, inr, length}
use Rattle.std.proofs.lemmas.Option.{slice_get_read}
use Rattle.ig_heights.proofs.uses.Uses.before.Goals as goal

pub returns-then-rule-part : goal.returns-then-rule-part
returns-then-rule-part c =
    record {
      earlier = c.index-earlier.result.now;
      at = slice_get_read c.args.self.now.earlier.items (length c.args.self.now.earlier.items) c.args.number _ refl c.requires c.index-earlier.ensures;
      is = inl (c.if-rule-part.true, refl);
    }

pub returns-else-rule-part : goal.returns-else-rule-part
returns-else-rule-part c =
    record {
      earlier = c.index-earlier.result.now;
      at = slice_get_read c.args.self.now.earlier.items (length c.args.self.now.earlier.items) c.args.number _ refl c.requires c.index-earlier.ensures;
      is = inr (c.if-rule-part.false, refl);
    }
