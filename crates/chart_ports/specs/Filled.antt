-- The images that a desk in memory picks of those that a crash may leave.
use Rattle.std.specs.Prelude.{ℕ, ◌-◌, true, false, List, [], ◌∷◌, ◌++◌, length, take, replicate}
use Rattle.chart_ports.specs.Disk.{with_bytes}
use Rattle.chart_ports.specs.Log.{Event, files_after, with_image}
use Rattle.chart_ports.specs.Moments.{image_of}
use Rattle.chart_ports.specs.declared.images.Fill.{Fill}
use Rattle.chart_ports.specs.declared.images.Fill.TheVariants.{Old, New, Ones}
use Rattle.chart_ports.specs.declared.images.Images.{Images}
use Rattle.chart_ports.specs.declared.log.Deed.{Deed}
use Rattle.chart_ports.specs.declared.log.Deed.TheVariants.{Nothing, Write, Cut, Sync, Say}

-- so many bytes 0xFF
abbrev pub ones : ℕ → List ℕ
ones n = replicate n 255

-- The files as the last sync left each, after a call that leaves these files; with ones in all places that were touched
-- since, where the fill is ones.
abbrev pub kept_after : Fill → Images → Images → Deed → List ℕ → Images
kept_after fill kept files Nothing bytes = kept
kept_after Old kept files (Write file at done) bytes = kept
kept_after New kept files (Write file at done) bytes = kept
kept_after Ones kept files (Write file at done) bytes =
    with_image kept file
    (take (length (image_of files file)) (with_bytes at (ones (length bytes)) (image_of kept file)))
kept_after Old kept files (Cut file n done) bytes = kept
kept_after New kept files (Cut file n done) bytes = kept
kept_after Ones kept files (Cut file n true) bytes = with_image kept file (take n (image_of kept file))
kept_after Ones kept files (Cut file n false) bytes =
    with_image kept file (with_bytes n (ones (length (image_of kept file) - n)) (image_of kept file))
kept_after fill kept files (Sync file true) bytes = with_image kept file (image_of files file)
kept_after fill kept files (Sync file false) bytes = kept
kept_after fill kept files (Say done) bytes = kept

-- the files after the calls of a log
abbrev pub files_through : Images → List Event → Images
files_through files [] = files
files_through files (event ∷ events) = files_through (files_after files event.0 event.1) events

-- what is kept of them
abbrev pub kept_through : Fill → Images → Images → List Event → Images
kept_through fill kept files [] = kept
kept_through fill kept files (event ∷ events) =
    kept_through fill (kept_after fill kept (files_after files event.0 event.1) event.0 event.1)
    (files_after files event.0 event.1) events

-- bytes at a length: cut, or filled up with zeros
abbrev pub at_length : ℕ → List ℕ → List ℕ
at_length n bytes = take n bytes ++ replicate (n - length bytes) 0

-- the images by a fill, at the lengths of the files
abbrev pub images_by : Fill → Images → Images → Images
images_by Old files kept = record {
  head = at_length (length files.head) kept.head;
  bank1 = at_length (length files.bank1) kept.bank1;
  bank2 = at_length (length files.bank2) kept.bank2;
}
images_by New files kept = files
images_by Ones files kept = kept

-- the images after the calls of a log, from these files on
abbrev pub images_after : Fill → Images → List Event → Images
images_after fill start events = images_by fill (files_through start events) (kept_through fill start start events)
