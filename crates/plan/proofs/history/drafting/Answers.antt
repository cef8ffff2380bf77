use Rattle.plan.proofs.Histories.{opened_drafted, sound_drafted, same_drafted}
use Rattle.plan.proofs.history.drafting.Goals as goal

pub returns : goal.returns
returns g c = record {
  opened = opened_drafted g.C.Cost.kind;
  sound = sound_drafted g.C.Cost.kind;
  settled = same_drafted g.C.Cost.kind;
}
