-- Both hashes give colours. These are proofs: a reader need believe nothing here.
use Rattle.std.proofs.Common.{rules}
use Rattle.hash.specs.Fnv1a.{fnv_hash, bytes_of}
use Rattle.hash.specs.Colours.{GivesColours, remainder, fnv}

pub remainder_gives : GivesColours remainder
remainder_gives = search rules

pub fnv_gives : GivesColours fnv
fnv_gives k name = remainder_gives k (fnv_hash (bytes_of name))
