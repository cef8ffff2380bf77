-- The distance and the next relay of the example.
use Rattle.std.proofs.Common.{◌≡◌, ℕ, zero, suc, ◌<◌, ◌≤◌, ◌⊎◌, [], ◌∷◌, refl, inl, inr, arith}
use Rattle.std.specs.List.{AllByRecursion}
use Rattle.std.proofs.ByRecursion.{all-has, has_get_or}
use Rattle.std.proofs.lemmas.Bool.Decides.{nat_tests}
use Rattle.kind.specs.declared.paid.Paid.{Paid}
use Rattle.kind.specs.Kinds.{paid, paid_kind}
use Rattle.kind.specs.Kept.{paid_laws}
use Rattle.kind.specs.Laws.{AtMost}
use Rattle.plan.specs.Plan.{Link, link}
use Rattle.plan.specs.Walk.{Linked, Walk, cost_of}
use Rattle.plan.specs.Sound.{Sound, TwoRelays}
use Rattle.measure.specs.Distance.{Distance, FirstStep}
use Rattle.measure.specs.Example.{three, FromFirstToLast}
use Rattle.measure.proofs.Metric.{metric}

-- pairs of ends that differ
apart : (a b c d : ℕ) → (a ≡ c → b ≡ d → ⊥) → (a ≡ d → b ≡ c → ⊥) → ((a ≡ c) × (b ≡ d)) ⊎ ((a ≡ d) × (b ≡ c)) → ⊥
apart a b c d h k (inl e) = h e.0 e.1
apart a b c d h k (inr e) = k e.0 e.1

three_sound : Sound paid_kind three
three_sound = record {
  colours_few = (omega arith, omega arith);
  relays_few = omega arith;
  links_few = omega arith;
  names = ((omega arith, omega arith), ((omega arith, omega arith), ((omega arith, omega arith), tt)));
  names_differ = ((λ e. omega arith, (λ e. omega arith, tt)), ((λ e. omega arith, tt), (tt, tt)));
  colours = ((omega arith, omega arith), ((omega arith, omega arith), ((omega arith, omega arith), tt)));
  ends = ((omega arith, omega arith, λ e. omega arith), ((omega arith, omega arith, λ e. omega arith), ((omega arith, omega arith, λ e. omega arith), tt)));
  pairs_differ = (
    (apart 0 1 0 2 (λ e f. omega arith) (λ e f. omega arith), (apart 0 1 1 2 (λ e f. omega arith) (λ e f. omega arith), tt)),
    ((apart 0 2 1 2 (λ e f. omega arith) (λ e f. omega arith), tt), (tt, tt)),
  );
  costs = (refl, (refl, (refl, tt)));
}

fewer : (a b : Paid) → a.segments < b.segments → AtMost paid_kind a b
fewer a b h l = grind (arith, nat_tests)

shorter : (a b : Paid) → a.segments ≡ b.segments → a.delay ≤ b.delay → AtMost paid_kind a b
shorter a b e h l = grind (arith, nat_tests)

-- the distances to the last relay
abbrev dist : ℕ → Paid
dist zero = paid 0 10
dist (suc zero) = paid 0 1
dist (suc (suc u)) = paid_kind.none

-- no link offers less, either way
abbrev Tight : Link Paid → Type 0
Tight l = AtMost paid_kind (dist l.from) (paid_kind.plus l.cost (dist l.to)) × AtMost paid_kind (dist l.to) (paid_kind.plus l.cost (dist l.from))

all_tight : AllByRecursion Tight three.links
all_tight = (
  (shorter (paid 0 10) (paid 0 10) refl (omega arith), shorter (paid 0 1) (paid 0 19) refl (omega arith)),
  (
    (fewer (paid 0 10) (paid 1 1) (omega arith), fewer paid_kind.none (paid 1 11) (omega arith)),
    ((shorter (paid 0 1) (paid 0 1) refl (omega arith), shorter paid_kind.none (paid 0 2) refl (omega arith)), tt),
  ),
)

tight : (u x : ℕ) (w : Paid) → Linked three u x w → AtMost paid_kind (dist u) (paid_kind.plus w (dist x))
tight u x w (inl h) = (all-has Tight three.links (link u x w) all_tight h).0
tight u x w (inr h) = (all-has Tight three.links (link x u w) all_tight h).1

first_link : Linked three 0 1 (paid 0 9)
first_link = inl (has_get_or three.links 0 (link 0 0 paid_kind.none) (omega arith))

last_link : Linked three 1 2 (paid 0 1)
last_link = inl (has_get_or three.links 2 (link 0 0 paid_kind.none) (omega arith))

walks : (u : ℕ) → u < 3 → (w : Walk three u 2) × (cost_of paid_kind w.hops ≡ dist u)
walks zero h = (record { hops = record { cost = paid 0 9; to = 1 } ∷ record { cost = paid 0 1; to = 2 } ∷ []; chain = (first_link, (last_link, refl)) }, refl)
walks (suc zero) h = (record { hops = record { cost = paid 0 1; to = 2 } ∷ []; chain = (last_link, refl) }, refl)
walks (suc (suc zero)) h = (record { hops = []; chain = refl }, refl)
walks (suc (suc (suc u))) h = absurd (omega arith)

distance : (u : ℕ) → u < 3 → Distance paid_kind three u 2 (dist u)
distance u h = (metric paid_laws three three_sound).certificate (λ x y. dist x) 2 walks refl tight u h

-- no link leads from a relay to itself
no_loop : (u : ℕ) (w : Paid) → Linked three u u w → ⊥
no_loop u w (inl h) = (all-has (λ l. TwoRelays 3 l.from l.to) three.links (link u u w) three_sound.ends h).2 refl
no_loop u w (inr h) = (all-has (λ l. TwoRelays 3 l.from l.to) three.links (link u u w) three_sound.ends h).2 refl

lowest : (r : ℕ) → FirstStep paid_kind three 0 2 r → 1 ≤ r
lowest zero f =
    let (w, d, l, m, e) = (metric paid_laws three three_sound).first_step 0 2 0 f (paid 0 10) (distance 0 (omega arith)) in
    absurd (no_loop 0 w l)
lowest (suc r) f = omega arith

pub three_stands : FromFirstToLast (paid 0 10) 1
three_stands = record {
  distance = distance 0 (omega arith);
  next = inr (
    (λ e. omega arith),
    (metric paid_laws three three_sound).step 0 2 1 (paid 0 9) (paid 0 1) (paid 0 10) (λ e. omega arith) first_link (distance 1 (omega arith)) (distance 0 (omega arith)) refl,
    lowest,
  );
}
