-- What a test of a mark says.
use Rattle.std.proofs.Common.{◌≡◌, true, false, refl}
use denote.Enum.Bare.{sameb}
use Rattle.game_core.specs.contracts.game.Mark.{the_type}
use Rattle.game_core.specs.declared.game.Mark.{Mark}
use Rattle.game_core.specs.declared.game.Mark.TheVariants.{Goal, Obstacle, Plain}
use Rattle.game_core.specs.Fallen.{is_obstacle}

pub clear_from : (m : Mark) → sameb the_type m Obstacle ≡ false → is_obstacle m ≡ false
clear_from Goal e = refl
clear_from Obstacle e = absurd (let f : true ≡ false = e in cc)
clear_from Plain e = refl
