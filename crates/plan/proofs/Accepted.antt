-- A call that is accepted is not refused: where all its checks hold, no refusal is that of the first that fails.
use Rattle.std.proofs.Common.{ℕ, inl, inr, arith}
use Rattle.std.proofs.ByRecursion.{All-get_or}
use Rattle.kind.specs.Laws.{CostKind}
use Rattle.plan.specs.declared.counts.Counts.{Counts}
use Rattle.plan.specs.declared.refusal.Refusal.{Refusal}
use Rattle.plan.specs.Plan.{Plan, Lists, plan_of, link}
use Rattle.plan.specs.Checks.{AllHold, FirstFails}
use Rattle.plan.specs.Rules.{IsNewPair, IsBadPair, open_checks, relay_checks, link_checks, close_checks}

-- opening
pub opening_accepted : (k : ℕ) → AllHold (open_checks k) → (f : Refusal) → FirstFails (open_checks k) f → ⊥
opening_accepted k h f (inl (_, beyond)) = beyond h.0
opening_accepted k h f (inr (_, none_left)) = none_left

-- adding a relay
pub relay_accepted : {C : Type 0} (n : Counts) (l : Lists C) (a c : ℕ) → AllHold (relay_checks n l a c)
    → (f : Refusal) → FirstFails (relay_checks n l a c) f → ⊥
relay_accepted n l a c h f (inl (_, short)) = short h.0
relay_accepted n l a c h f (inr (_, inl (_, beyond))) = beyond h.1.0
relay_accepted n l a c h f (inr (_, inr (_, inl (_, (i, borne))))) = h.1.1.0 i borne
relay_accepted n l a c h f (inr (_, inr (_, inr (_, inl (_, full))))) = full h.1.1.1.0
relay_accepted n l a c h f (inr (_, inr (_, inr (_, inr (_, inl (_, no_place)))))) = no_place h.1.1.1.1.0
relay_accepted n l a c h f (inr (_, inr (_, inr (_, inr (_, inr (_, none_left)))))) = none_left

-- a pair that a link may join is not a bad one
good_pair : {C : Type 0} (p : Plan C) (a b : ℕ) → IsNewPair p a b → IsBadPair p a b → ⊥
good_pair p a b new (inl (inl unknown)) = unknown new.from new.from_called.bears
good_pair p a b new (inl (inr unknown)) = unknown new.to new.to_called.bears
good_pair p a b new (inr (inl same)) = new.differ same
good_pair p a b new (inr (inr joined)) = new.apart joined

-- adding a link
pub link_accepted : {C : Type 0} (K : CostKind C) (n : Counts) (l : Lists C) (a b : ℕ) (c : C) → AllHold (link_checks K n l a b c)
    → (f : Refusal) → FirstFails (link_checks K n l a b c) f → ⊥
link_accepted K n l a b c h f (inl (_, short)) = short h.0
link_accepted K n l a b c h f (inr (_, inl (_, beyond))) = beyond h.1.0
link_accepted K n l a b c h f (inr (_, inr (_, inl (_, bad)))) = good_pair (plan_of n l) a b h.1.1.0 bad
link_accepted K n l a b c h f (inr (_, inr (_, inr (_, inl (_, full))))) = full h.1.1.1.0
link_accepted K n l a b c h f (inr (_, inr (_, inr (_, inr (_, inl (_, no_place)))))) = no_place h.1.1.1.1.0
link_accepted K n l a b c h f (inr (_, inr (_, inr (_, inr (_, inr (_, none_left)))))) = none_left

-- closing
pub closing_accepted : {C : Type 0} (none : C) (n : Counts) (l : Lists C) → AllHold (close_checks n l)
    → (f : Refusal) → FirstFails (close_checks n l) f → ⊥
closing_accepted none n l h f (inl (_, short)) = short h.0
closing_accepted none n l h f (inr (_, inl (c, _, lowest))) = lowest.absent (h.1.0 c lowest.colour)
closing_accepted none n l h f (inr (_, inr (_, inl (_, d)))) =
    d.loose (link 0 0 none) (All-get_or _ (plan_of n l).links d.place (link 0 0 none) d.within h.1.1.0)
closing_accepted none n l h f (inr (_, inr (_, inr (_, inl (v, _, out))))) =
    out.out (h.1.1.1.0 0 v (let there = out.relay in omega arith) out.relay)
closing_accepted none n l h f (inr (_, inr (_, inr (_, inr (_, none_left))))) = none_left
