use Rattle.ig_ebnf.proofs.CodeOfPass.{root_is_fresh}
use Rattle.ig_ebnf.proofs.grammars.lower_ebnf.Goals as goal

pub root-requires : goal.root-requires
root-requires c =
    record {
      fresh = root_is_fresh c.lowering_keeps.ensures c.args.checked.now c.requires.sound c.requires.free
          c.requires.unmarked c.requires.no_layout
          c.requires.excluding c.in_ok-all.ensures.few c.in_ok-all.all c.in_ok-all.ensures.same;
    }
