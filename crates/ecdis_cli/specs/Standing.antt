-- Where the answering of a script stands.
use Rattle.std.specs.Prelude.{◌≡◌, ℕ, ◌<◌, List, [], length, vec_len, Bool}
use Rattle.chart_ports.specs.Moments.{images_of}
use Rattle.chart_store.specs.Images.{StandFor}
use Rattle.chart_store.specs.Store.{count_of}
use Rattle.session_core.specs.Model.{Model}
use Rattle.session_core.specs.Session.{IsReady, model_of, scenes_of, store_of}
use Rattle.session_core.specs.declared.session.Session.{Session}
use Rattle.ecdis_cli.specs.Devices.{panels_in}
use Rattle.ecdis_cli.specs.Panels.{Members, PanelValue}
use Rattle.ecdis_cli.specs.declared.run.devices.Devices.{Devices}

-- what the lines before left: the model, what was said, how often the shelf has failed, how many steps were counted, and
-- the panels; and the number and the bytes of the line that has begun
pub record Standing : Type 0 where
  pub model : Model
  pub said : List ℕ
  pub faults : ℕ
  pub count : ℕ
  pub panels : List PanelValue
  pub number : ℕ
  pub line : List ℕ

-- the first line has begun
abbrev pub at_start : Model → List ℕ → ℕ → ℕ → List PanelValue → Standing
at_start model said faults count panels = record {
  model = model;
  said = said;
  faults = faults;
  count = count;
  panels = panels;
  number = 1;
  line = [];
}

-- that of a session, where so much was said, the shelf has failed so often, so many steps were counted and the panels are
-- these, at a line
abbrev pub standing_of : Session → List ℕ → ℕ → ℕ → List PanelValue → ℕ → List ℕ → Standing
standing_of session said faults count panels number line = record {
  model = model_of session;
  said = said;
  faults = faults;
  count = count;
  panels = panels;
  number = number;
  line = line;
}

-- the same, as the devices have it
abbrev pub standing_at : {L D C X : Type 0} {V : X → Type 0} → (L → ℕ) → (D → List ℕ) → Members X V
    → Session → Devices L D C X V → ℕ → List ℕ → Standing
standing_at faults said members session devices number line =
    standing_of session (said devices.desk.now) (faults devices.shelf.now) devices.steps.now (panels_in members devices)
    number line

-- what a read of the desk's files gives stands for what the session holds
abbrev pub Stands : {L D C X : Type 0} {V : X → Type 0} → (D → ℕ → List ℕ) → Devices L D C X V → Session → Type 0
Stands contents devices session = StandFor (images_of (contents devices.desk.now)) (model_of session).state

-- The session is ready for its next turn, it knows of as many panels as there are, and fewer commands were accepted than
-- the number of the line that has begun.
pub record IsReadyFor {L D C X : Type 0} {V : X → Type 0} (tells : Bool) (contents : D → ℕ → List ℕ)
    (may_leave : D → ℕ → List ℕ → Type 0) (devices : Devices L D C X V) (number : ℕ) (session : Session) : Type 0 where
  pub store : IsReady tells (contents devices.desk.now) (may_leave devices.desk.now) session
  pub panels : vec_len devices.panels.now ≡ length (scenes_of session)
  pub counted : count_of (store_of session) < number
