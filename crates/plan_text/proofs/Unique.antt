-- The text of a sound plan tells the plan: where a text begins with what was written of one, it has the same counts and the same first entries.
use Rattle.std.proofs.Common.{◌≡◌, ℕ, zero, suc, ◌+◌, ◌<◌, ◌≤◌, ◌⊎◌, List, [], ◌∷◌, ◌++◌, length, get_or, take, drop, sym, refl, ap, ◌∙◌, ap₂, inl, inr, le_of_suc-le-suc, not-suc-le-zero, arith}
use Rattle.std.specs.List.{flat_map, AllByRecursion}
use Rattle.std.proofs.ByRecursion.{All-get_or, All-from_get_or}
use Rattle.std.proofs.lemmas.List.{append_assoc, append-nil, append_cancel_left, drop_more, drop_all, take_all}
use Rattle.std.proofs.lemmas.Bool.{cases_order}
use Rattle.kind.specs.Laws.{CostKind, IsLink}
use Rattle.plan.specs.Plan.{Plan, Relay, Link, relay, name_of}
use Rattle.plan.specs.Sound.{Sound, NoTwo, SameName, TwoRelays}
use Rattle.plan_text.specs.declared.plan_kind.PlanKind.{PlanKind}
use Rattle.plan_text.specs.Rows.{row, TenDigits}
use Rattle.plan_text.specs.Kinds.{letter_of, heading_of, TextKind, TextLaws}
use Rattle.plan_text.specs.Text.{plan_heading, relay_heading, counts_line, header, relay_line, link_line, relays_written, links_written, text_of}
use Rattle.plan_text.proofs.Lines.{rows_same}
use Rattle.plan.proofs.Adding.{same_plan}

-- two places of a list that has no two alike
pub no_two_places : {A : Type 0} (R : A → A → Type 0) (xs : List A) (i j : ℕ) (d : A) → NoTwo R xs → i < j → j < length xs → R (get_or xs i d) (get_or xs j d) → ⊥
no_two_places R [] i j d h l in' r = not-suc-le-zero in'
no_two_places R (x ∷ xs) i zero d h l in' r = not-suc-le-zero l
no_two_places R (x ∷ xs) zero (suc j) d h l in' r = All-get_or _ xs j d (le_of_suc-le-suc in') h.0 r
no_two_places R (x ∷ xs) (suc i) (suc j) d h l in' r = no_two_places R xs i j d h.1 (le_of_suc-le-suc l) (le_of_suc-le-suc in') r

-- relays of a sound plan that have one name are one
pub same_relay : {C : Type 0} (K : CostKind C) (p : Plan C) → Sound K p → (u v : ℕ) → u < length p.relays → v < length p.relays → name_of p u ≡ name_of p v → u ≡ v
same_relay K p s u v hu hv e = by (cases_order u v)
  where
    by : (u ≡ v) ⊎ ((u < v) ⊎ (v < u)) → u ≡ v
    by (inl same) = same
    by (inr (inl l)) = absurd (no_two_places SameName p.relays u v (relay 0 0) s.names_differ l hv e)
    by (inr (inr l)) = absurd (no_two_places SameName p.relays v u (relay 0 0) s.names_differ l hu (sym e))

-- Lines of which each tells its entry.
module _ {X : Type 0} (f : X → List ℕ) where
  pub joined_next : (xs : List X) (i : ℕ) (d : X) (t : List ℕ) → i < length xs → flat_map f (drop i xs) ++ t ≡ f (get_or xs i d) ++ (flat_map f (drop (i + 1) xs) ++ t)
  joined_next xs i d t h = ap (λ (ys : List X). flat_map f ys ++ t) (drop_more xs i d h) ∙ append_assoc (f (get_or xs i d)) (flat_map f (drop (i + 1) xs)) t

  pub joined_front : (OK : X → Type 0) → ((x y : X) (r s : List ℕ) → OK x → OK y → f x ++ r ≡ f y ++ s → (x ≡ y) × (r ≡ s))
      → (xs ys : List X) (r s : List ℕ) → AllByRecursion OK xs → AllByRecursion OK ys → length xs ≤ length ys → flat_map f xs ++ r ≡ flat_map f ys ++ s
      → (xs ≡ take (length xs) ys) × (r ≡ flat_map f (drop (length xs) ys) ++ s)
  joined_front OK one [] ys r s a b l e = (refl, e)
  joined_front OK one (x ∷ xs) [] r s a b l e = absurd (omega arith)
  joined_front OK one (x ∷ xs) (y ∷ ys) r s a b l e =
      let first = one x y (flat_map f xs ++ r) (flat_map f ys ++ s) a.0 b.0 (sym (append_assoc (f x) (flat_map f xs) r) ∙ e ∙ append_assoc (f y) (flat_map f ys) s) in
      let rest = joined_front OK one xs ys r s a.1 b.1 (omega arith) first.1 in
      (ap₂ (λ (z : X) (zs : List X). z ∷ zs) first.0 rest.0, rest.1)

-- the line of a relay
abbrev ShortRelay : Relay → Type 0
ShortRelay r = TenDigits r.name × TenDigits r.colour

relay_told : (x y : Relay) (r s : List ℕ) → ShortRelay x → ShortRelay y → relay_line x ++ r ≡ relay_line y ++ s → (x ≡ y) × (r ≡ s)
relay_told x y r s a b e =
    let same = rows_same (x.name ∷ (x.colour ∷ [])) (y.name ∷ (y.colour ∷ [])) r s refl (a.0, (a.1, tt)) (b.0, (b.1, tt)) e in
    (ap₂ relay (ap (λ (ns : List ℕ). get_or ns 0 0) same.0) (ap (λ (ns : List ℕ). get_or ns 1 0) same.0), same.1)

-- the first two lines
header_told : (kind : PlanKind) (k n m k' n' m' : ℕ) (r s : List ℕ) → AllByRecursion TenDigits (k ∷ (n ∷ (m ∷ []))) → AllByRecursion TenDigits (k' ∷ (n' ∷ (m' ∷ [])))
    → header kind k n m ++ r ≡ header kind k' n' m' ++ s → (k ∷ (n ∷ (m ∷ [])) ≡ k' ∷ (n' ∷ (m' ∷ []))) × (r ≡ s)
header_told kind k n m k' n' m' r s a b e =
    rows_same (k ∷ (n ∷ (m ∷ []))) (k' ∷ (n' ∷ (m' ∷ []))) r s refl a b
    (append_cancel_left (letter_of kind ∷ (32 ∷ [])) (row (k ∷ (n ∷ (m ∷ []))) ++ r) (row (k' ∷ (n' ∷ (m' ∷ []))) ++ s)
    (append_cancel_left plan_heading (counts_line kind k n m ++ r) (counts_line kind k' n' m' ++ s)
    (sym (append_assoc plan_heading (counts_line kind k n m) r) ∙ e ∙ append_assoc plan_heading (counts_line kind k' n' m') s)))

-- what is written of a plan, from its front on
regrouped : (a b c d : List ℕ) → ((a ++ b) ++ c) ++ d ≡ a ++ (b ++ (c ++ d))
regrouped a b c d = simp append_assoc

regrouped_4 : (a b c d e : List ℕ) → (((a ++ b) ++ c) ++ d) ++ e ≡ a ++ (b ++ (c ++ (d ++ e)))
regrouped_4 a b c d e = simp append_assoc

-- What the text of p tells of it.
module _ {C : Type 0} (T : TextKind C) (p : Plan C) where
  -- what the text has behind its first i relays, and behind its first j links
  abbrev pub from_relay : ℕ → List ℕ
  from_relay i = flat_map relay_line (drop i p.relays) ++ (heading_of T.kind ++ flat_map (link_line T p) p.links)

  abbrev pub from_link : ℕ → List ℕ
  from_link j = flat_map (link_line T p) (drop j p.links)

  -- k, n and m are the counts of p, and so the rest of the text begins with the relays
  pub record HeaderTold (k n m : ℕ) (rest : List ℕ) : Type 0 where
    pub same_colours : k ≡ p.colours
    pub same_relays : n ≡ length p.relays
    pub same_links : m ≡ length p.links
    pub there : rest ≡ relay_heading ++ from_relay 0

  -- and the relays of q are the first of p
  pub record RelaysTold (q : Plan C) (k n m : ℕ) (rest : List ℕ) : Type 0 where
    pub same_colours : k ≡ p.colours
    pub same_relays : n ≡ length p.relays
    pub same_links : m ≡ length p.links
    pub first_relays : q.relays ≡ take (length q.relays) p.relays
    pub there : rest ≡ from_relay (length q.relays)

  -- and q has the relays of p, and its links are the first of p
  pub record LinksTold (q : Plan C) (k n m : ℕ) (rest : List ℕ) : Type 0 where
    pub same_colours : k ≡ p.colours
    pub same_relays : n ≡ length p.relays
    pub same_links : m ≡ length p.links
    pub all_relays : q.relays ≡ p.relays
    pub first_links : q.links ≡ take (length q.links) p.links
    pub there : rest ≡ from_link (length q.links)

-- The text of p, read against what was written of another sound plan q.
module _ {C : Type 0} (K : CostKind C) (T : TextKind C) (told : TextLaws K T)
    (p : Plan C) (sound : Sound K p) where
  pub from_header : text_of T p ≡ header T.kind p.colours (length p.relays) (length p.links) ++ (relay_heading ++ from_relay T p 0)
  from_header = regrouped_4 (header T.kind p.colours (length p.relays) (length p.links)) relay_heading (flat_map relay_line p.relays) (heading_of T.kind) (flat_map (link_line T p) p.links)

  counts_short : AllByRecursion TenDigits (p.colours ∷ (length p.relays ∷ (length p.links ∷ [])))
  counts_short = (omega (arith, sound.colours_few), (omega (arith, sound.relays_few), (omega (arith, sound.links_few), tt)))

  pub after_header : (k n m : ℕ) (rest : List ℕ) → TenDigits k → TenDigits n → TenDigits m → header T.kind k n m ++ rest ≡ text_of T p → HeaderTold T p k n m rest
  after_header k n m rest sk sn sm e =
      let same = header_told T.kind k n m p.colours (length p.relays) (length p.links) rest (relay_heading ++ from_relay T p 0) (sk, (sn, (sm, tt))) counts_short (e ∙ from_header) in
      record {
        same_colours = ap (λ (ns : List ℕ). get_or ns 0 0) same.0;
        same_relays = ap (λ (ns : List ℕ). get_or ns 1 0) same.0;
        same_links = ap (λ (ns : List ℕ). get_or ns 2 0) same.0;
        there = same.1;
      }

  short_relays : (q : Plan C) → Sound K q → AllByRecursion ShortRelay q.relays
  short_relays q s = All-from_get_or ShortRelay q.relays (relay 0 0) (λ i h.
      let name = All-get_or _ q.relays i (relay 0 0) h s.names in
      let colour = All-get_or _ q.relays i (relay 0 0) h s.colours in
      (omega (arith, name.1), omega (arith, colour.1, s.colours_few)))

  module _ (q : Plan C) (q_sound : Sound K q) (k n m : ℕ) (rest : List ℕ) (sk : TenDigits k) (sn : TenDigits n) (sm : TenDigits m) where
    pub after_relays : length q.relays ≤ n → relays_written T.kind k n m q ++ rest ≡ text_of T p → RelaysTold T p q k n m rest
    after_relays few e =
        let head = after_header k n m (relay_heading ++ (flat_map relay_line q.relays ++ rest)) sk sn sm
        (sym (regrouped (header T.kind k n m) relay_heading (flat_map relay_line q.relays) rest) ∙ e) in
        let lines = joined_front relay_line ShortRelay relay_told q.relays p.relays rest (heading_of T.kind ++ flat_map (link_line T p) p.links)
        (short_relays q q_sound) (short_relays p sound) (omega (arith, head.same_relays))
        (append_cancel_left relay_heading (flat_map relay_line q.relays ++ rest) (from_relay T p 0) head.there) in
        record {
          same_colours = head.same_colours;
          same_relays = head.same_relays;
          same_links = head.same_links;
          first_relays = lines.0;
          there = lines.1;
        }

  -- the numbers in the line of a link
  abbrev pub numbers_of : Link C → List ℕ
  numbers_of l = name_of p l.from ∷ (name_of p l.to ∷ T.shown l.cost)

  -- the ends are relays of p, and the cost is one of a link
  abbrev pub Fair : Link C → Type 0
  Fair l = (l.from < length p.relays) × (l.to < length p.relays) × IsLink K l.cost

  name_short : (u : ℕ) → u < length p.relays → TenDigits (name_of p u)
  name_short u h = let name = All-get_or _ p.relays u (relay 0 0) h sound.names in omega (arith, name.1)

  pub numbers_short : (l : Link C) → Fair l → AllByRecursion TenDigits (numbers_of l)
  numbers_short l f = (name_short l.from f.0, (name_short l.to f.1, told.short l.cost f.2))

  pub numbers_count : (l : Link C) → length (numbers_of l) ≡ 2 + T.width
  numbers_count l = omega (arith, told.wide l.cost)

  cost_told : (c c' : C) → IsLink K c → IsLink K c' → T.shown c ≡ T.shown c' → c ≡ c'
  cost_told c c' h h' e = sym (told.back c h) ∙ ap T.read e ∙ told.back c' h'

  same_link : {u u' v v' : ℕ} {c c' : C} → u ≡ u' → v ≡ v' → c ≡ c'
      → ◌≡◌ {A = Link C} (record { from = u; to = v; cost = c }) (record { from = u'; to = v'; cost = c' })
  same_link e f g i = record { from = e i; to = f i; cost = g i }

  link_told : (x y : Link C) (r s : List ℕ) → Fair x → Fair y → link_line T p x ++ r ≡ link_line T p y ++ s → (x ≡ y) × (r ≡ s)
  link_told x y r s a b e =
      let same = rows_same (numbers_of x) (numbers_of y) r s (numbers_count x ∙ sym (numbers_count y)) (numbers_short x a) (numbers_short y b) e in (
        same_link
            (same_relay K p sound x.from y.from a.0 b.0 (ap (λ (ns : List ℕ). get_or ns 0 0) same.0))
            (same_relay K p sound x.to y.to a.1 b.1 (ap (λ (ns : List ℕ). get_or ns 1 0) same.0))
            (cost_told x.cost y.cost a.2 b.2 (ap (λ (ns : List ℕ). drop 2 ns) same.0)),
        same.1,
      )

  -- the links of a sound plan of the same relays
  pub fair_links : (q : Plan C) → Sound K q → q.relays ≡ p.relays → AllByRecursion Fair q.links
  fair_links q s e = all_both q.links s.ends s.costs
    where
      all_both : (ls : List (Link C)) → AllByRecursion (λ l. TwoRelays (length q.relays) l.from l.to) ls → AllByRecursion (λ l. IsLink K l.cost) ls → AllByRecursion Fair ls
      all_both [] a b = tt
      all_both (l ∷ ls) a b = ((omega (arith, a.0.0, ap length e), omega (arith, a.0.1, ap length e), b.0), all_both ls a.1 b.1)

  module _ (q : Plan C) (q_sound : Sound K q) (k n m : ℕ) (rest : List ℕ) (sk : TenDigits k) (sn : TenDigits n) (sm : TenDigits m) where
    pub after_links : length q.relays ≡ n → length q.links ≤ m → links_written T k n m q ++ rest ≡ text_of T p → LinksTold T p q k n m rest
    after_links all few e =
        let lines_of : List Relay → List ℕ = λ rs. flat_map (link_line T (record { colours = q.colours; relays = rs; links = q.links })) q.links in
        let before = after_relays q q_sound k n m (heading_of T.kind ++ (flat_map (link_line T q) q.links ++ rest)) sk sn sm (omega arith)
        (sym (regrouped (relays_written T.kind k n m q) (heading_of T.kind) (flat_map (link_line T q) q.links) rest) ∙ e) in
        let size : length q.relays ≡ length p.relays = all ∙ before.same_relays in
        let same : q.relays ≡ p.relays = before.first_relays ∙ take_all (length q.relays) p.relays (omega arith) in
        let behind : from_relay T p (length q.relays) ≡ heading_of T.kind ++ flat_map (link_line T p) p.links
        = ap (λ (rs : List Relay). flat_map relay_line rs ++ (heading_of T.kind ++ flat_map (link_line T p) p.links)) (drop_all (length q.relays) p.relays (omega arith)) in
        let lines = joined_front (link_line T p) Fair link_told q.links p.links rest []
        (fair_links q q_sound same) (fair_links p sound refl) (omega (arith, before.same_links))
        (ap (λ (rs : List Relay). lines_of rs ++ rest) (sym same)
        ∙ append_cancel_left (heading_of T.kind) (flat_map (link_line T q) q.links ++ rest) (flat_map (link_line T p) p.links) (before.there ∙ behind)
        ∙ sym (append-nil (flat_map (link_line T p) p.links))) in
        record {
          same_colours = before.same_colours;
          same_relays = before.same_relays;
          same_links = before.same_links;
          all_relays = same;
          first_links = lines.0;
          there = lines.1 ∙ append-nil (from_link T p (length q.links));
        }

-- sound plans of one text are one plan
pub text_injective : {C : Type 0} (K : CostKind C) (T : TextKind C) → TextLaws K T
    → (p q : Plan C) → Sound K p → Sound K q → text_of T p ≡ text_of T q → p ≡ q
text_injective K T told p q s t e =
    let same = after_links K T told q t p s p.colours (length p.relays) (length p.links) []
    (omega (arith, s.colours_few)) (omega (arith, s.relays_few)) (omega (arith, s.links_few)) refl (omega arith) (append-nil (text_of T p) ∙ e) in
    same_plan same.same_colours same.all_relays
    (same.first_links ∙ take_all (length p.links) q.links (omega (arith, same.same_links)))
