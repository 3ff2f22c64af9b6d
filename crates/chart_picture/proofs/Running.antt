-- What is answered to the words, and what becomes of it.
use Rattle.std.proofs.Common.{◌≡◌, ◌≢◌, ℕ, ◌≤◌, Bool, true, false, List, ◌++◌, Option, Some, None, Result, Ok, Err, refl, sym, ◌∙◌, ap, subst, inl, inr, arith}
use Rattle.std.specs.Prelude.{◌⊎◌, IsErrAnd, IsTrue, IfErr, IfOk, IfSome}
use Rattle.chart_ports.specs.Count.{IsSteady, Rose}
use Rattle.chart_ports.specs.Said.{SaysFront}
use Rattle.session_core.specs.Fetch.{Files}
use Rattle.picture_words.specs.Reading.{PictureValue, are_refused, ask, words_of}
use Rattle.chart_picture.specs.End.{is_early, is_refusal, told}
use Rattle.chart_picture.specs.Fetching.{IsFetched}
use Rattle.chart_picture.specs.Material.{IsDrawn, IsViewOf, material_in}
use Rattle.chart_picture.specs.Picture.{IsLook, IsPicture}
use Rattle.chart_picture.specs.Run.{IsAnswer, IsAnswerBy, IsAnswered, IsPictured, IsWordsEnd}
use Rattle.chart_picture.specs.declared.run.end.End.{End}
use Rattle.chart_picture.specs.declared.run.end.End.TheVariants.{Done, Words, Tables, File, OutputFault, NoMemory, ShelfFault}
use Rattle.chart_picture.specs.declared.run.material.Material.{Material}
use Rattle.chart_picture.specs.declared.run.voyage.CheckedRoute.{CheckedRoute}
use Rattle.chart_store.specs.Loaded.{HoldingsByKey}
use Rattle.chart_svg.specs.declared.look.Look.{Look}
use Rattle.chart_svg.specs.declared.view.View.{View}
use Rattle.chart_picture.proofs.Ends.{not-fetching, passed-is, same-end, same-err}

-- ---- what the contract of a run says

pub record Ran {L D : Type 0} (l_tells : Bool) (files : L → Files) (l_faults : L → ℕ) (d_tells : Bool) (said : D → List ℕ)
    (d_faults : D → ℕ) (words : List (List ℕ)) (shelf shelf' : L) (desk desk' : D) (end : End) : Type 0 where
  pub done : IsTrue l_tells → IsTrue d_tells → end ≡ Done → (bytes : List ℕ) × IsAnswer (files shelf) words bytes
      × (said desk' ≡ said desk ++ bytes)
  pub output : IsTrue l_tells → IsTrue d_tells → end ≡ OutputFault → (bytes : List ℕ) × IsAnswer (files shelf) words bytes
      × SaysFront (said desk) bytes (said desk')
  pub silent : end ≢ Done → end ≢ OutputFault → desk' ≡ desk
  pub words_end : end ≡ Words → are_refused words ≡ true
  pub wordless : words_of words ≡ None → IsTrue (is_early end)
  pub unread : words_of words ≡ None → shelf' ≡ shelf
  pub refused : IsTrue l_tells → IsTrue (is_refusal end) → (read : PictureValue) × (words_of words ≡ Some read)
      × (material_in (files shelf) read ≡ Err end)
  pub refuses : (read : PictureValue) (fault : End) → IsTrue l_tells → words_of words ≡ Some read
      → material_in (files shelf) read ≡ Err fault → (end ≡ fault) ⊎ ((end ≡ ShelfFault) ⊎ (end ≡ NoMemory))
  pub output_failed : end ≡ OutputFault → Rose (d_faults desk) (d_faults desk')
  pub shelf_failed : end ≡ ShelfFault → Rose (l_faults shelf) (l_faults shelf')
  pub complete : (read : PictureValue) (material : Material) → IsTrue l_tells → words_of words ≡ Some read
      → material_in (files shelf) read ≡ Ok material → IsSteady (d_faults desk) (d_faults desk')
      → (end ≡ Done) ⊎ ((end ≡ ShelfFault) ⊎ (end ≡ NoMemory))
  pub shelf_later : l_faults shelf ≤ l_faults shelf'
  pub same : IsTrue l_tells → files shelf' ≡ files shelf

-- ---- what there is to say

-- the document of these charts and this route, in words of each call
pub drawn-of : {E : Type 0} (words : PictureValue) (material : Material) (view : View) (look : Look) (cells : HoldingsByKey)
    (checked : Option CheckedRoute) (document : Result (List ℕ) E) → cells ≡ material.live.cells → checked ≡ material.checked
    → IsViewOf words.view cells words.width view → IsLook material.colours look
    → IfOk document (IsPicture view look material.table words.settings material.live checked) → IfOk document (IsDrawn words material)
drawn-of words material view look cells checked (Ok document) held same shown looks drawn = record {
  view = view;
  is_view = subst (λ (c : HoldingsByKey). IsViewOf words.view c words.width view) held shown;
  look = look;
  is_look = looks;
  is_picture = subst (λ (o : Option CheckedRoute). IsPicture view look material.table words.settings material.live o document) same drawn;
}
drawn-of words material view look cells checked (Err error) held same shown looks drawn = tt

module _ {L : Type 0} (tells : Bool) (files : L → Files) (faults : L → ℕ) (read : PictureValue) (before now : L) where
  abbrev Pictured : Result (List ℕ) End → Type 0
  Pictured answer = IsPictured tells files faults before now read answer

  abbrev Gathered : Result Material End → Type 0
  Gathered answer = IsFetched tells files faults before now answer (λ fs. material_in fs read)

  -- a file is refused, the shelf failed, or memory ran out
  pub not-gathered : (end : End) (r : Result (List ℕ) End) → IsErrAnd r (λ passed. passed ≡ end) → Gathered (Err end) → Pictured r
  not-gathered end r passed h =
      subst Pictured (sym (passed-is r end passed))
      (record {
        drawn = λ t. tt;
        refused = h.found;
        ends = h.ends;
        failed = λ f. h.failed (same-err Material end ShelfFault (same-end {A = List ℕ} end ShelfFault f));
        files_stay = h.files_stay;
        later = h.later;
      })

  -- memory runs out at the drawing
  pub not-drawn : (material : Material) (r : Result (List ℕ) End) → IsErrAnd r (λ passed. passed ≡ NoMemory) → Gathered (Ok material)
      → Pictured r
  not-drawn material r passed h =
      subst Pictured (sym (passed-is r NoMemory passed))
      (record {
        drawn = λ t. tt;
        refused = λ t. tt;
        ends = refl;
        failed = λ f. absurd (let e : NoMemory ≡ ShelfFault = same-end {A = List ℕ} NoMemory ShelfFault f in cc);
        files_stay = h.files_stay;
        later = h.later;
      })

  pub is-drawn : (material : Material) (document : List ℕ) → Gathered (Ok material) → IsDrawn read material document
      → Pictured (Ok document)
  is-drawn material document h drawn = record {
    drawn = λ t. record { material = material; gathered = h.found t; drawn = drawn };
    refused = λ t. tt;
    ends = tt;
    failed = λ f. absurd cc;
    files_stay = h.files_stay;
    later = h.later;
  }

module _ {L : Type 0} (tells : Bool) (files : L → Files) (faults : L → ℕ) (words : List (List ℕ)) where
  abbrev Answers : L → L → Option PictureValue → Result (List ℕ) End → Type 0
  Answers before now said answer = IsAnswered tells files faults before now words said answer

  -- the words are read
  pub read-answered : (before now : L) (read : PictureValue) (answer : Result (List ℕ) End) → words_of words ≡ Some read
      → IsPictured tells files faults before now read answer → Answers before now (words_of words) answer
  read-answered before now read answer said h =
      subst (λ (o : Option PictureValue). Answers before now o answer) (sym said) h

  -- they are refused
  pub refused-answered : (here : L) → are_refused words ≡ true → words_of words ≡ None
      → Answers here here (words_of words) (Err Words)
  refused-answered here refused none =
      subst (λ (o : Option PictureValue). Answers here here o (Err Words)) (sym none)
      (record { unread = refl; asked = tt; ends = inl (refl, refused) })

  -- a text is asked for
  pub asked-answered : (here : L) (answer : Result (List ℕ) End) → ask words ≡ true → words_of words ≡ None
      → IfErr answer (λ end. end ≡ NoMemory) → Answers here here (words_of words) answer
  asked-answered here (Ok bytes) asks none h =
      subst (λ (o : Option PictureValue). Answers here here o (Ok bytes)) (sym none)
      (record { unread = refl; asked = asks; ends = tt })
  asked-answered here (Err end) asks none h =
      subst (λ (o : Option PictureValue). Answers here here o (Err end)) (sym none)
      (record { unread = refl; asked = tt; ends = inr h })

  -- there is no memory to read them
  unread-answered : (here : L) (said : Option PictureValue) → Answers here here said (Err NoMemory)
  unread-answered here (Some read) = record {
    drawn = λ t. tt;
    refused = λ t. tt;
    ends = refl;
    failed = λ f. absurd (let e : NoMemory ≡ ShelfFault = same-end {A = List ℕ} NoMemory ShelfFault f in cc);
    files_stay = λ t. refl;
    later = omega arith;
  }
  unread-answered here None = record { unread = refl; asked = tt; ends = inr refl }

  pub memory-answered : (here : L) → Answers here here (words_of words) (Err NoMemory)
  memory-answered here = unread-answered here (words_of words)

-- ---- ends

early-words : (words : List (List ℕ)) (end : End) → IsWordsEnd words end → IsTrue (is_early end)
early-words words end (inl at) = ap is_early at.0
early-words words end (inr is) = ap is_early is

not-words : (words : List (List ℕ)) (end other : End) → Words ≢ other → NoMemory ≢ other → IsWordsEnd words end → end ≢ other
not-words words end other w m (inl at) is = w (sym at.0 ∙ is)
not-words words end other w m (inr none) is = m (sym none ∙ is)

words-refused : (words : List (List ℕ)) (end : End) → IsWordsEnd words end → end ≡ Words → are_refused words ≡ true
words-refused words end (inl at) is = at.1
words-refused words end (inr none) is = absurd (let e : NoMemory ≡ Words = sym none ∙ is in cc)

no-refusal : (words : List (List ℕ)) (end : End) → IsWordsEnd words end → IsTrue (is_refusal end) → ⊥
no-refusal words end (inl at) h = let e : false ≡ true = sym (ap is_refusal at.0) ∙ h in cc
no-refusal words end (inr none) h = let e : false ≡ true = sym (ap is_refusal none) ∙ h in cc

-- the end is told where it is a refusal
refusal-told : (end : End) (wanted : Result Material End) → IsTrue (is_refusal end) → IfSome (told end) (λ what. wanted ≡ Err what)
    → wanted ≡ Err end
refusal-told Done wanted r h = h
refusal-told Words wanted r h = h
refusal-told (Tables which fault) wanted r h = h
refusal-told (File place name fault) wanted r h = h
refusal-told OutputFault wanted r h = h
refusal-told NoMemory wanted r h = absurd (let e : false ≡ true = r in cc)
refusal-told ShelfFault wanted r h = absurd (let e : false ≡ true = r in cc)

same-fault : (x y : End) → ◌≡◌ {A = Result Material End} (Err x) (Err y) → x ≡ y
same-fault x y e = cc

-- and every other end of a fetch is the shelf's failure or want of memory
told-end : (end : End) (wanted : Result Material End) (fault : End) → IfSome (told end) (λ what. wanted ≡ Err what)
    → wanted ≡ Err fault → (end ≡ fault) ⊎ ((end ≡ ShelfFault) ⊎ (end ≡ NoMemory))
told-end Done wanted fault h is = inl (same-fault Done fault (sym h ∙ is))
told-end Words wanted fault h is = inl (same-fault Words fault (sym h ∙ is))
told-end (Tables which table) wanted fault h is = inl (same-fault (Tables which table) fault (sym h ∙ is))
told-end (File place name file) wanted fault h is = inl (same-fault (File place name file) fault (sym h ∙ is))
told-end OutputFault wanted fault h is = inl (same-fault OutputFault fault (sym h ∙ is))
told-end NoMemory wanted fault h is = inr (inr refl)
told-end ShelfFault wanted fault h is = inr (inl refl)

told-none : (end : End) (wanted : Result Material End) (material : Material) → IfSome (told end) (λ what. wanted ≡ Err what)
    → wanted ≡ Ok material → (end ≡ Done) ⊎ ((end ≡ ShelfFault) ⊎ (end ≡ NoMemory))
told-none NoMemory wanted material h is = inr (inr refl)
told-none ShelfFault wanted material h is = inr (inl refl)
told-none Done wanted material h is = inl refl
told-none Words wanted material h is = absurd (let e : ◌≡◌ {A = Result Material End} (Ok material) (Err Words) = sym is ∙ h in cc)
told-none (Tables which table) wanted material h is =
    absurd (let e : ◌≡◌ {A = Result Material End} (Ok material) (Err (Tables which table)) = sym is ∙ h in cc)
told-none (File place name file) wanted material h is =
    absurd (let e : ◌≡◌ {A = Result Material End} (Ok material) (Err (File place name file)) = sym is ∙ h in cc)
told-none OutputFault wanted material h is =
    absurd (let e : ◌≡◌ {A = Result Material End} (Ok material) (Err OutputFault) = sym is ∙ h in cc)

some-other : (read said : PictureValue) (o : Option PictureValue) → o ≡ Some said → o ≡ Some read → read ≡ said
some-other read said o e f = let s : Some read ≡ Some said = sym f ∙ e in cc

none-some : {X : Type 0} (said : PictureValue) (o : Option PictureValue) → o ≡ Some said → o ≡ None → X
none-some said o e f = absurd (let s : Some said ≡ None = sym e ∙ f in cc)

module _ {L D : Type 0} (l_tells : Bool) (files : L → Files) (l_faults : L → ℕ) (d_tells : Bool) (said : D → List ℕ)
    (d_faults : D → ℕ) (words : List (List ℕ)) (shelf shelf' : L) where
  abbrev Run : D → D → End → Type 0
  Run desk desk' end = Ran l_tells files l_faults d_tells said d_faults words shelf shelf' desk desk' end

  abbrev Answered : Option PictureValue → Result (List ℕ) End → Type 0
  Answered o answer = IsAnswered l_tells files l_faults shelf shelf' words o answer

  -- ---- nothing is said

  ended-by : (o : Option PictureValue) (desk : D) (end : End) → words_of words ≡ o → Answered o (Err end) → Run desk desk end
  ended-by (Some read) desk end e h = record {
    done = λ t d is. absurd (not-fetching end Done refl h.ends is);
    output = λ t d is. absurd (not-fetching end OutputFault refl h.ends is);
    silent = λ n m. refl;
    words_end = λ is. absurd (not-fetching end Words refl h.ends is);
    wordless = none-some read (words_of words) e;
    unread = none-some read (words_of words) e;
    refused = λ t r. (read, e, refusal-told end (material_in (files shelf) read) r (h.refused t));
    refuses = λ other fault t is there.
        told-end end (material_in (files shelf) read) fault (h.refused t)
        (ap (material_in (files shelf)) (sym (some-other other read (words_of words) e is)) ∙ there);
    output_failed = λ is. absurd (not-fetching end OutputFault refl h.ends is);
    shelf_failed = λ is. h.failed (same-err (List ℕ) end ShelfFault is);
    complete = λ other material t is there steady.
        told-none end (material_in (files shelf) read) material (h.refused t)
        (ap (material_in (files shelf)) (sym (some-other other read (words_of words) e is)) ∙ there);
    shelf_later = h.later;
    same = h.files_stay;
  }
  ended-by None desk end e h = record {
    done = λ t d is. absurd (not-words words end Done (λ s. cc) (λ s. cc) h.ends is);
    output = λ t d is. absurd (not-words words end OutputFault (λ s. cc) (λ s. cc) h.ends is);
    silent = λ n m. refl;
    words_end = words-refused words end h.ends;
    wordless = λ none. early-words words end h.ends;
    unread = λ none. h.unread;
    refused = λ t r. absurd (no-refusal words end h.ends r);
    refuses = λ other fault t is there. none-some other (words_of words) is e;
    output_failed = λ is. absurd (not-words words end OutputFault (λ s. cc) (λ s. cc) h.ends is);
    shelf_failed = λ is. absurd (not-words words end ShelfFault (λ s. cc) (λ s. cc) h.ends is);
    complete = λ other material t is there steady. none-some other (words_of words) is e;
    shelf_later = subst (λ (s : L). l_faults shelf ≤ l_faults s) (sym h.unread) (omega arith);
    same = λ t. ap files h.unread;
  }

  pub ended : (desk : D) (end : End) → Answered (words_of words) (Err end) → Run desk desk end
  ended desk end h = ended-by (words_of words) desk end refl h

  -- ---- the answer is said

  is-answer : (o : Option PictureValue) (bytes : List ℕ) → words_of words ≡ o → Answered o (Ok bytes) → IsTrue l_tells
      → IsAnswer (files shelf) words bytes
  is-answer (Some read) bytes e h t = subst (λ (w : Option PictureValue). IsAnswerBy (files shelf) words w bytes) (sym e) (h.drawn t)
  is-answer None bytes e h t = subst (λ (w : Option PictureValue). IsAnswerBy (files shelf) words w bytes) (sym e) h.asked

  is-later : (o : Option PictureValue) (bytes : List ℕ) → Answered o (Ok bytes) → l_faults shelf ≤ l_faults shelf'
  is-later (Some read) bytes h = h.later
  is-later None bytes h = subst (λ (s : L). l_faults shelf ≤ l_faults s) (sym h.unread) (omega arith)

  stays : (o : Option PictureValue) (bytes : List ℕ) → Answered o (Ok bytes) → IsTrue l_tells → files shelf' ≡ files shelf
  stays (Some read) bytes h = h.files_stay
  stays None bytes h = λ t. ap files h.unread

  is-unread : (o : Option PictureValue) (bytes : List ℕ) → Answered o (Ok bytes) → o ≡ None → shelf' ≡ shelf
  is-unread (Some read) bytes h none = absurd cc
  is-unread None bytes h none = h.unread

  -- a document that is drawn was not refused
  drawn-not : (o : Option PictureValue) (bytes : List ℕ) (read : PictureValue) (fault : End) → Answered o (Ok bytes) → IsTrue l_tells
      → o ≡ Some read → material_in (files shelf) read ≡ Err fault → ⊥
  drawn-not None bytes read fault h t e there = absurd cc
  drawn-not (Some said) bytes read fault h t e there =
      let same : said ≡ read = cc in
      let drawn = h.drawn t in
      let both : ◌≡◌ {A = Result Material End} (Ok drawn.material) (Err fault) =
      sym drawn.gathered ∙ ap (material_in (files shelf)) same ∙ there in
      cc

  pub said-whole : (desk desk' : D) (bytes : List ℕ) → Answered (words_of words) (Ok bytes)
      → (IsTrue d_tells → said desk' ≡ said desk ++ bytes) → Run desk desk' Done
  said-whole desk desk' bytes h whole = record {
    done = λ t d is. (bytes, is-answer (words_of words) bytes refl h t, whole d);
    output = λ t d is. absurd cc;
    silent = λ n m. absurd (n refl);
    words_end = λ is. absurd cc;
    wordless = λ none. refl;
    unread = is-unread (words_of words) bytes h;
    refused = λ t r. absurd (let e : false ≡ true = r in cc);
    refuses = λ read fault t is there. absurd (drawn-not (words_of words) bytes read fault h t is there);
    output_failed = λ is. absurd cc;
    shelf_failed = λ is. absurd cc;
    complete = λ read material t is there steady. inl refl;
    shelf_later = is-later (words_of words) bytes h;
    same = stays (words_of words) bytes h;
  }

  not-steady : (desk desk' : D) → Rose (d_faults desk) (d_faults desk') → IsSteady (d_faults desk) (d_faults desk') → ⊥
  not-steady desk desk' (inl rose) steady = let same = steady.same in omega arith
  not-steady desk desk' (inr last) steady = let below = steady.below in omega arith

  pub said-front : (desk desk' : D) (bytes : List ℕ) → Answered (words_of words) (Ok bytes)
      → (IsTrue d_tells → SaysFront (said desk) bytes (said desk')) → Rose (d_faults desk) (d_faults desk') → Run desk desk' OutputFault
  said-front desk desk' bytes h front rose = record {
    done = λ t d is. absurd cc;
    output = λ t d is. (bytes, is-answer (words_of words) bytes refl h t, front d);
    silent = λ n m. absurd (m refl);
    words_end = λ is. absurd cc;
    wordless = λ none. refl;
    unread = is-unread (words_of words) bytes h;
    refused = λ t r. absurd (let e : false ≡ true = r in cc);
    refuses = λ read fault t is there. absurd (drawn-not (words_of words) bytes read fault h t is there);
    output_failed = λ is. rose;
    shelf_failed = λ is. absurd cc;
    complete = λ read material t is there steady. absurd (not-steady desk desk' rose steady);
    shelf_later = is-later (words_of words) bytes h;
    same = stays (words_of words) bytes h;
  }
