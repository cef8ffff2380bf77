use Rattle.plan.proofs.Closing.{refused_plainly}
use Rattle.plan.proofs.draft.Draft.close.Goals as goal

pub returns-in-Err-clause-refused : goal.returns-in-Err-clause-refused
returns-in-Err-clause-refused g c = rw (← c.counts-counts.ensures) c.in-Err.ensures

pub returns-in-Err-clause-plainly : goal.returns-in-Err-clause-plainly
returns-in-Err-clause-plainly g c = rw (← c.counts-counts.ensures) (refused_plainly g.C.Cost.kind.none g.C.Cost.kind _ _ _ c.in-Err.ensures)

pub returns-clause-accepted : goal.returns-clause-accepted
returns-clause-accepted g c = rw (← c.counts-counts.ensures) c.in_default.ensures

pub returns-clause-plainly : goal.returns-clause-plainly
returns-clause-plainly g c = rw (← c.counts-counts.ensures)
    λ _ _. record { worn = c.in_default.ensures.1.0; connected = c.in_default.ensures.1.1.1.0 }
