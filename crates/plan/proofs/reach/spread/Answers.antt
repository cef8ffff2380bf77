use Rattle.plan.proofs.Reaching.{mark_falls, mark_more, within_set}
use Rattle.plan.proofs.reach.spread.Goals as goal

pub loop-v-preserved : goal.loop-v-preserved
loop-v-preserved c = (
  within_set c.args.ends.now c.loop-v.marks c.from.result c.loop-v.invariant.0,
  mark_more c.args.ends.now c.loop-v.marks c.from.result c.in-Some.v c.loop-v.invariant.1 c.in-Some.ensures c.from.ensures,
)
