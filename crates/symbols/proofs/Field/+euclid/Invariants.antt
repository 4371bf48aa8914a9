-- Field::euclid: the second remainder falls.
use Rattle.symbols.proofs.Field.+euclid.Given as goal

abbrev pub decreases-euclid : goal.decreases-euclid
decreases-euclid l = l.r1
