-- What contracts see of a store, and how a desk keeps it.
use Rattle.std.specs.Prelude.{◌≡◌, ◌⊎◌, ℕ, ◌+◌, Bool, List, ◌++◌, option_map, Option, Some, IfSome}
use Rattle.chart_model.specs.State.{StateValue}
use Rattle.chart_ports.specs.declared.images.Images.{Images}
use Rattle.chart_ports.specs.Moments.{MayBeLeft, images_of}
use Rattle.bank_journal.specs.Content.{Content}
use Rattle.bank_pair.specs.Handle.{value_of}
use Rattle.bank_pair.specs.Pair.{AreFramed, IsPairInStep, PairValue}
use Rattle.bank_pair.specs.Saving.{SaveValue, gate_of_save}
use Rattle.chart_store.specs.declared.store.Store.{Store}
use Rattle.chart_store.specs.Checkpoint.{checkpoint_in}
use Rattle.chart_store.specs.Images.{Holds, StandFor, read_of}
use Rattle.chart_store.specs.Outcome.{Room}

-- what is held
abbrev pub state_of : Store → StateValue
state_of store = store.live

-- the two banks that keep it, with the save that is under way
abbrev pub pair_of : Store → PairValue
pair_of store = value_of store.pair

-- the save that is under way
abbrev pub save_of : Store → Option SaveValue
save_of store = (pair_of store).save

-- how many bytes of the current bank are used, up to and with its closed gate
abbrev pub used_of : Store → ℕ
used_of store = (pair_of store).gate + 1

-- the room in the two banks: of the other one while a save is under way
abbrev pub room_of : Store → Room
room_of store = record { used = used_of store; other = option_map (λ save. gate_of_save save + 1) (save_of store) }

-- how many commands were accepted since it was opened
abbrev pub count_of : Store → ℕ
count_of store = store.count

-- whether no call of the desk has failed
abbrev pub is_sound : Store → Bool
is_sound store = store.sound

-- what a store is, but for the room that it has taken for records to come
pub record StoreValue : Type 0 where
  pub state : StateValue
  pub pair : PairValue
  pub count : ℕ
  pub sound : Bool

abbrev pub store_of : Store → StoreValue
store_of store = record { state = state_of store; pair = pair_of store; count = count_of store; sound = is_sound store }

-- ---- the save under way

-- The save under way is of what the current bank holds: its checkpoint says what the first of the records there led to,
-- and its frames are those of the other records.
pub record IsSaveOf (content : Content) (save : SaveValue) : Type 0 where
  pub saved : StateValue
  pub starts : checkpoint_in save.checkpoint ≡ Some saved
  pub before : List (List ℕ)
  pub since : List (List ℕ)
  pub parts : content.bodies ≡ before ++ since
  pub framed : AreFramed save.since since
  pub holds : Holds (record { checkpoint = content.checkpoint; bodies = before }) saved

-- ---- a desk that keeps it

-- A desk is in step with a store: it is in step with the pair, whose current bank holds what is held, and a save that is
-- under way is of that.
pub record IsKept (contents : ℕ → List ℕ) (may_leave : ℕ → List ℕ → Type 0) (store : Store) : Type 0 where
  pub content : Content
  pub pair : IsPairInStep contents may_leave (pair_of store) content
  pub holds : Holds content (state_of store)
  pub save : IfSome (save_of store) (IsSaveOf content)

-- ---- what a crash leaves

-- nothing more is said, and the files stand for this state
pub record StandsForSame (said : List ℕ) (state : StateValue) (images : Images) (so_far : List ℕ) : Type 0 where
  pub silent : so_far ≡ said
  pub stands : StandFor images state

-- nothing more is said, and the files stand for one of these states
pub record StandsForEither (said : List ℕ) (before after : StateValue) (images : Images) (so_far : List ℕ)
    : Type 0 where
  pub silent : so_far ≡ said
  pub stands : StandFor images before ⊎ StandFor images after

-- nothing more is said, and the files are as a crash might have left them before
pub record LeavesBefore (may_leave : ℕ → List ℕ → Type 0) (said : List ℕ) (images : Images) (so_far : List ℕ)
    : Type 0 where
  pub silent : so_far ≡ said
  pub left : MayBeLeft may_leave images

-- files that are read as others are, and stand for what those stand for
pub record SaysAs (images others : Images) : Type 0 where
  pub reads : read_of images ≡ read_of others
  pub stands : (state : StateValue) → StandFor others state → StandFor images state

-- nothing more is said, and the files are as a crash might have left them before, or say what a read of them gave
pub record LeavesReading (contents : ℕ → List ℕ) (may_leave : ℕ → List ℕ → Type 0) (said : List ℕ)
    (images : Images) (so_far : List ℕ) : Type 0 where
  pub silent : so_far ≡ said
  pub either : MayBeLeft may_leave images ⊎ SaysAs images (images_of contents)
