use native.Mathlib.Omega.{arith}
use Rattle.offload_binary_writer.proofs.WholeLaws.{up8_top}
use Rattle.offload_binary_writer.proofs.places.Goals as goal

pub overflow_add-stop : goal.overflow_add-stop
overflow_add-stop c = omega (arith, c.up_to_8-image.ensures, up8_top, c.strings_len.ensures.1, c.requires.0, c.requires.2)

pub up_to_8-size-requires : goal.up_to_8-size-requires
up_to_8-size-requires c = omega (arith, c.up_to_8-image.ensures, up8_top, c.strings_len.ensures.1, c.requires.0, c.requires.2)
