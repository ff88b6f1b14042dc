-- The numbers of what a call returns: "An accepted call has place 0"; "A refusal returns its number and a place", and "has 0 in every other returned number".
-- Definitions only.
use Rattle.std.specs.Prelude.{ℕ, Option, Some, None, Result, Ok, Err}
use Rattle.wire.specs.Refusals.{number_of}
use Rattle.wire.specs.declared.Refusal.{Refusal}
use Rattle.bundle.specs.declared.Checked.{Checked}
use Rattle.bundle.specs.declared.Picked.{Picked}
use Rattle.bundle.specs.declared.PickedEach.{PickedEach}
use Rattle.bundle.specs.declared.Located.{Located}
use Rattle.bundle.specs.declared.Written.{Written}
use Rattle.bundle.specs.declared.Image.{Image}
use Rattle.bundle.specs.declared.Picks.{Picks}
use Rattle.bundle.specs.declared.Source.{Source}
use Rattle.bundle.specs.declared.Source.TheVariants.{Patch, Main}
use Rattle.bundle.specs.declared.SourceImage.{SourceImage}
use Rattle.bundle.specs.declared.LookupRefusal.{LookupRefusal}
use Rattle.bundle.specs.declared.Found.{Found}
use Rattle.bundle.specs.declared.EntryRecord.{EntryRecord}

abbrev pub checked_of : Result ℕ Refusal → Checked
checked_of (Ok n) = record { number = 0; place = 0; count = n }
checked_of (Err r) = record { number = number_of r.reason; place = r.place; count = 0 }

abbrev pub picked_of : Result Image Refusal → Picked
picked_of (Ok p) = record { number = 0; place = 0; index = p.index; position = p.position; size = p.size }
picked_of (Err r) = record { number = number_of r.reason; place = r.place; index = 0; position = 0; size = 0 }

abbrev pub picked_each_of : Result Picks Refusal → PickedEach
picked_each_of (Ok p) = record { number = 0; place = 0; slots = p.slots; word = p.word; taken = p.taken }
picked_each_of (Err r) = record { number = number_of r.reason; place = r.place; slots = 0; word = 0; taken = 0 }

-- "1 patch, 2 main, else 0"
abbrev pub source_number : Source → ℕ
source_number Patch = 1
source_number Main = 2

abbrev pub named_number : Option Source → ℕ
named_number (Some source) = source_number source
named_number None = 0

abbrev pub found_of : Result SourceImage LookupRefusal → Found
found_of (Ok f) = record { number = 0; place = 0; bundle = source_number f.source; position = f.position; size = f.size }
found_of (Err r) = record { number = number_of r.refusal.reason; place = r.refusal.place; bundle = named_number r.source; position = 0; size = 0 }

abbrev pub located_of : Result EntryRecord Refusal → Located
located_of (Ok e) = record { number = 0; place = 0; position = e.image_start; size = e.image_len; id_position = e.id_start; id_length = e.id_len }
located_of (Err r) = record { number = number_of r.reason; place = r.place; position = 0; size = 0; id_position = 0; id_length = 0 }

abbrev pub written_of : Result ℕ Refusal → Written
written_of (Ok n) = record { number = 0; place = 0; length = n }
written_of (Err r) = record { number = number_of r.reason; place = r.place; length = 0 }
