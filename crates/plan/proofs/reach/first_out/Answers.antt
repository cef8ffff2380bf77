use Rattle.std.proofs.Common.{◌≡◌, ℕ, ◌<◌, ◌≤◌, length, take, false, replicate, sym, ◌∙◌, arith}
use Rattle.std.proofs.lemmas.Bool.{both_ways}
use Rattle.std.proofs.lemmas.List.{get_or-take, length-take-le}
use Rattle.plan.proofs.Reaching.{first_mark, no_marks, stays_marked}
use Rattle.plan.proofs.reach.first_out.Goals as goal

pub spread-requires : goal.spread-requires
spread-requires c = (
  (λ k h. let at = c.requires.0 k h in (omega (arith, at.0), omega (arith, at.1))),
  first_mark c.args.ends.now (replicate 256 false) (no_marks 256) (omega arith),
)

pub returns-in_err-relay : goal.returns-in_err-relay
returns-in_err-relay c = rw c.from_residual.ensures
    (let size : c.from.result ≤ length c.spread.new.marks = grind arith in
    let count : length (take c.from.result c.spread.new.marks) ≡ c.from.result = length-take-le _ _ size in
    λ v h. let below : v < c.from.result = omega (arith, h, c.from.ensures) in
    c.spread.ensures.0.1 v (sym (get_or-take _ _ _ false below) ∙ c.in_err-relay.ensures v (omega (arith, below, count))))

pub returns : goal.returns
returns c =
    let size : c.from.result ≤ length c.spread.new.marks = grind arith in
    let count : length (take c.from.result c.spread.new.marks) ≡ c.from.result = length-take-le _ _ size in
    let below : c.in_ok-relay.relay < c.from.result = omega (arith, count, c.in_ok-relay.ensures.0) in (
      omega (arith, below, c.from.ensures),
      (λ r. both_ways _ (sym (get_or-take _ _ _ false below) ∙ c.in_ok-relay.ensures.1)
          (stays_marked c.args.ends.now c.spread.new.marks c.spread.ensures.1 0 c.in_ok-relay.relay c.spread.ensures.0.0 r)),
      λ u h. let inside : u < c.from.result = omega (arith, below, h) in
          c.spread.ensures.0.1 u (sym (get_or-take _ _ _ false inside) ∙ c.in_ok-relay.ensures.2 u h),
    )
