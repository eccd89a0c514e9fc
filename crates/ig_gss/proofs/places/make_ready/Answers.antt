use Rattle.std.proofs.Common.{sym, subst}
use Rattle.ig_gss.specs.Places.{GrowsBy}
use Rattle.ig_gss.proofs.Entered.{same_grows, still_all}
use Rattle.ig_gss.proofs.places.make_ready.Goals as goal

pub returns-then-is_indexed-clause-grows : goal.returns-then-is_indexed-clause-grows
returns-then-is_indexed-clause-grows c = same_grows _ _ _ _ c.reserve.ensures.entries

pub returns-then-is_indexed-clause-all : goal.returns-then-is_indexed-clause-all
returns-then-is_indexed-clause-all c =
    still_all c.reserve.result c.args.node c.args.pops _ _ c.reserve.ensures.entries (c.requires c.if-is_indexed.true)

pub returns-clause-grows : goal.returns-clause-grows
returns-clause-grows c = subst (GrowsBy c.args.node c.args.pops c.args.ends.now.entries) (sym c.reserve-2.ensures.entries) c.in_ok-enter_pops.ensures.grows

pub returns-clause-all : goal.returns-clause-all
returns-clause-all c = still_all c.reserve-2.result c.args.node c.args.pops _ _ c.reserve-2.ensures.entries c.in_ok-enter_pops.ensures.all
