use Rattle.std.proofs.Common.{◌≡◌, ◌*◌, length, inl, inr, refl, rules}
use Rattle.balls.proofs.Entries.{has_row}
use Rattle.balls.proofs.neighbourhoods.Neighbourhoods.order_from.Goals as goal

pub returns-in_default-clause-refused : goal.returns-in_default-clause-refused
returns-in_default-clause-refused g c =
    let square : length c.args.self.now.distances ≡ length c.args.self.now.colours * length c.args.self.now.colours = search rules in
    let row = has_row (length c.args.self.now.colours) c.args.from c.args.self.now.distances square in
    inr (search rules, inl (refl, λ inside. let has = row inside in search (rules, has)))
