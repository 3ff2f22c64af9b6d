-- What contracts see of the values that the code keeps.
use Rattle.std.specs.Prelude.{ℕ, ◌-◌, List, option_map, vec_capacity, vec_len}
use Rattle.bank_journal.specs.Handle.{file_of, place_of}
use Rattle.bank_pair.specs.declared.pair.Pair.{Pair}
use Rattle.bank_pair.specs.declared.pair.Save.{Save}
use Rattle.bank_pair.specs.Pair.{PairValue}
use Rattle.bank_pair.specs.Saving.{SaveValue}

-- a save, with the frames of the records since it began
abbrev pub save_with : List (List ℕ) → Save → SaveValue
save_with since save = record {
  checkpoint = save.checkpoint;
  slices = save.slices;
  written = save.written;
  since = since;
}

abbrev pub value_of : Pair → PairValue
value_of pair = record {
  file = file_of pair.bank;
  gate = place_of pair.bank;
  save = option_map (save_with pair.since.items) pair.save;
}

-- for how many more records there is room beside the bank
abbrev pub spare_of : Pair → ℕ
spare_of pair = vec_capacity pair.since - vec_len pair.since
