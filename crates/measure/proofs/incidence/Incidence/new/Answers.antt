use Rattle.std.proofs.Common.{◌≡◌, ℕ, ◌+◌, ◌<◌, ◌≤◌, List, [], ◌++◌, append-nil, length, get_or, replicate, refl, sym, ap, ◌∙◌, subst, arith}
use Rattle.std.proofs.lemmas.List.{length-set, length-append}
use Rattle.plan.specs.declared.ends.Ends.{Ends}
use Rattle.plan.specs.Walk.{nowhere}
use Rattle.plan.specs.Plan.{ends_of}
use Rattle.measure.specs.Incidence.{Chained}
use Rattle.measure.proofs.Chaining.{chained_none, chained_more, last_left, small_ends, ends_size}
use Rattle.measure.proofs.incidence.Incidence.new.Given as given
use Rattle.measure.proofs.incidence.Incidence.new.Goals as goal
use Rattle.measure.proofs.incidence.Incidence.new.Goals.{After-from-v}

pub loop-k-init : goal.loop-k-init
loop-k-init g c =
    let into = c.into_iter-k-iterator.ensures.into_iter_gives in
    let all = ap (λ r. r.iter.iter.rest.now) into ∙ ap (λ e. e.iter.rest.now) c.rev-k-items.ensures.source
    ∙ ap (λ i. i.rest.now) c.enumerate.ensures.source ∙ c.iter.ensures.rest ∙ c.ends-ends.ensures in
    let size = c.link_count-links.ensures.count ∙ sym (ends_size c.args.plan.now) in
    record {
      first = refl;
      from = refl;
      to = refl;
      count = ap (λ r. r.iter.count) into ∙ ap (λ e. e.count) c.rev-k-items.ensures.source ∙ c.enumerate.ensures.count;
      left = ([], append-nil _ ∙ all);
      chained = subst (Chained _ _ _ _) (size ∙ sym (ap length all))
          (chained_none (ends_of c.args.plan.now) (replicate 1024 0) (replicate 1024 0) c.link_count-links.result size);
    }

here : (g : given.Over) (c : After-from-v g) → (after : List Ends) × (c.next.new.self.iter.iter.rest.now ++ after ≡ (ends_of c.args.plan.now))
    × (get_or (ends_of c.args.plan.now) (length c.next.new.self.iter.iter.rest.now) nowhere ≡ c.in-Some.pair.now)
    × (length c.next.new.self.iter.iter.rest.now < length (ends_of c.args.plan.now))
here g c = last_left c.loop-k.k-iterator.iter.iter.rest.now c.next.new.self.iter.iter.rest.now (ends_of c.args.plan.now) c.in-Some.pair.now c.in-Some.ensures.steps.1.0 c.loop-k.invariant.left

small : (g : given.Over) (c : After-from-v g) → (c.from-u.result < 256) × (c.from-v.result < 256)
small g c =
    let (after, whole, is, within) = here g c in
    let inside = small_ends c.args.plan.now (length c.next.new.self.iter.iter.rest.now) c.requires.tied c.requires.few
    (omega (arith, within, ends_size c.args.plan.now)) in (
      omega (arith, c.from-u.ensures, inside.0, ap (λ (e : Ends). e.from) is),
      omega (arith, c.from-v.ensures, inside.1, ap (λ (e : Ends). e.to) is),
    )

pub bounds-first-u : goal.bounds-first-u
bounds-first-u g c = (small g c).0

pub bounds-first-v : goal.bounds-first-v
bounds-first-v g c = (small g c).1

pub bounds-first-u-in-loop-k : goal.bounds-first-u-in-loop-k
bounds-first-u-in-loop-k g c = (small g c).0

pub bounds-first-v-in-loop-k : goal.bounds-first-v-in-loop-k
bounds-first-v-in-loop-k g c = (small g c).1

pub loop-k-preserved : goal.loop-k-preserved
loop-k-preserved g c =
    let fewer = c.next.new.self.iter.iter.rest.now in
    let (after, whole, is, within) = here g c in
    let (small_u, small_v) = small g c in
    let place : c.in-Some.k ≡ length fewer = omega (arith, c.in-Some.ensures.steps.1.1, c.loop-k.invariant.count) in
    let at : get_or (ends_of c.args.plan.now) c.in-Some.k nowhere ≡ c.in-Some.pair.now = ap (λ (k : ℕ). get_or (ends_of c.args.plan.now) k nowhere) place ∙ is in
    let one_less : length c.loop-k.k-iterator.iter.iter.rest.now ≡ c.in-Some.k + 1 =
    ap length c.in-Some.ensures.steps.1.0 ∙ length-append fewer _ ∙ ap (λ (n : ℕ). n + 1) (sym place) in
    let few : length (ends_of c.args.plan.now) ≤ 1024 = omega (arith, ends_size c.args.plan.now, c.link_count-links.ensures.few, c.link_count-links.ensures.count) in
    record {
      first = length-set _ _ _ ∙ length-set _ _ _ ∙ c.loop-k.invariant.first;
      from = length-set _ _ _ ∙ c.loop-k.invariant.from;
      to = length-set _ _ _ ∙ c.loop-k.invariant.to;
      count = c.in-Some.ensures.steps.0 ∙ c.loop-k.invariant.count;
      left = (after, whole);
      chained = subst (Chained _ _ _ _) place
          (chained_more (ends_of c.args.plan.now) c.loop-k.first c.loop-k.from c.loop-k.to c.in-Some.k c.from-u.result c.from-v.result
          (c.from-u.ensures ∙ ap (λ (e : Ends). e.from) (sym at)) (c.from-v.ensures ∙ ap (λ (e : Ends). e.to) (sym at)) (omega (arith, within, place))
          (omega (arith, small_u, c.loop-k.invariant.first)) (omega (arith, small_v, c.loop-k.invariant.first))
          (omega (arith, within, place, few, c.loop-k.invariant.from)) (omega (arith, within, place, few, c.loop-k.invariant.to)) small_u small_v
          (length c.loop-k.k-iterator.iter.iter.rest.now) one_less c.loop-k.invariant.chained);
    }
