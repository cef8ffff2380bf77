use Rattle.std.proofs.Common.{◌+◌, ◌*◌, ◌<◌, length, arith, rules}
use Rattle.measure.proofs.Cells.{cell_inside}
use Rattle.measure.proofs.square.Square.entry.Goals as goal

pub offset_bounds-self-row : goal.offset_bounds-self-row
offset_bounds-self-row g c =
    let below : c.args.row * c.args.self.now.side + c.args.column < length c.args.self.now.cells.now =
    omega (arith, cell_inside c.args.self.now.side c.args.row c.args.column c.requires.row c.requires.column, c.requires.full) in
    search rules
