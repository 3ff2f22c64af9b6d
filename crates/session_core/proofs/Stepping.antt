-- Steps of turns: those of events, and of the users that are brought up to date.
use Rattle.std.proofs.Common.{◌≡◌, ◌≢◌, inr, ⊎_elim, ℕ, zero, suc, ◌+◌, ◌-◌, ◌≤◌, Bool, true, false, cond, List, [], ◌∷◌, length, Option, Some, None, Result, Ok, refl, sym, ◌∙◌, ap, subst, arith}
use Rattle.std.specs.Prelude.{◌==◌}
use Rattle.std.specs.FinMap as finite
use Rattle.std.specs.Cmp.{tied_itself}
use Rattle.std.specs.Ordering.{eq_by_cmp, is_eq}
use Rattle.std.specs.List.{Contains}
use Rattle.std.specs.List.Sorted.{IsStrictlySortedBy}
use Rattle.std.proofs.lemmas.List.Elements.{Contains-append_cases}
use Rattle.chart_difference.specs.Difference.{AreChanged, HasAll}
use Rattle.chart_model.specs.Cell.{CellValue}
use Rattle.chart_model.specs.Names.{name_cmp}
use Rattle.chart_model.specs.State.{StateValue}
use Rattle.chart_model.specs.declared.name.Name.{Name}
use Rattle.chart_model.proofs.Names.{name_cmp-IsAntisymmetric, name_cmp-total}
use Rattle.topology_cache.specs.Users.{HasChanged, feature_names}
use Rattle.session_core.specs.Held.{chart_of}
use Rattle.session_core.specs.Kept.{features_in}
use Rattle.session_core.specs.Steps.{TakesAtMost, records_of_file}
use Rattle.session_core.specs.declared.refusal.LineRefusal.{LineRefusal}
use Rattle.iso8211_records.specs.RecordFile.{data_records_in}
use Rattle.update_sequence.specs.Info.{tags_of_info}

-- ---- names whose records differ

unchanged : (chart : Option CellValue) → AreChanged chart chart []
unfolding IsStrictlySortedBy
unchanged chart = record {
  rising = tt;
  exact = λ name. (
    λ there. absurd (let below = there.1 in omega arith),
    λ differ. absurd (⊎_elim (λ vectors. vectors refl) (λ features. features refl) differ),
  );
}

-- the names of features that differ are among them
pub has-changed : (old now : Option CellValue) (before after : CellValue) (names : List Name) → old ≡ Some before → now ≡ Some after
    → AreChanged old now names → HasChanged before after names
has-changed old now before after names was is h name apart =
    let both : AreChanged (Some before) (Some after) names =
    subst (λ (o : Option CellValue). AreChanged (Some before) o names) is (subst (λ (o : Option CellValue). AreChanged o now names) was h) in
    (both.exact name).1 (inr apart)

pub all-changed : (old now : Option CellValue) (before after : CellValue) (names : List Name) → old ≡ Some before → now ≡ Some after
    → AreChanged old now names → HasAll (Some before) (Some after) names
all-changed old now before after names was is h name apart =
    let both : AreChanged (Some before) (Some after) names =
    subst (λ (o : Option CellValue). AreChanged (Some before) o names) is (subst (λ (o : Option CellValue). AreChanged o now names) was h) in
    (both.exact name).1 apart

fewer : (b : Bool) (name : Name) (rest : List Name) (n : ℕ) → length rest ≤ n → length (cond b (name ∷ rest) rest) ≤ n + 1
fewer true name rest n h = omega (arith, h)
fewer false name rest n h = omega (arith, h)

pub fewer-features : (names : List Name) → length (feature_names names) ≤ length names
fewer-features [] = omega arith
fewer-features (name ∷ names) =
    let h = fewer (name.rcnm == 100) name (feature_names names) (length names) (fewer-features names) in omega (arith, h)

-- ---- a map whose keys are all among names has no more entries than there are names

none-there : {X : Type 0} (m : finite.FinMap name_cmp X) → ((q : Name) → finite.get m q ≢ None → Contains [] q) → finite.len m ≡ 0
none-there {X = X} m among =
    ap finite.len (finite.same_map name_cmp-total name_cmp-IsAntisymmetric m finite.empty (λ q. nothing q (finite.get m q) refl ∙ sym (finite.get-empty name_cmp q)))
    ∙ finite.len-empty name_cmp X
  where
    nothing : (q : Name) (o : Option X) → finite.get m q ≡ o → finite.get m q ≡ None
    nothing q None e = e
    nothing q (Some x) e = absurd (let there = among q (λ none. let f : ◌≡◌ {A = Option X} (Some x) None = sym e ∙ none in cc) in let below = there.1 in omega arith)

alone : (x q : Name) → Contains (x ∷ []) q → x ≡ q
alone x q (zero, below, at) = at
alone x q (suc k, below, at) = absurd (omega arith)

not-tied : (q name : Name) → eq_by_cmp name_cmp q name ≡ false → name ≡ q → ⊥
not-tied q name e is =
    let same : eq_by_cmp name_cmp q name ≡ true = subst (λ (n : Name). eq_by_cmp name_cmp q n ≡ true) (sym is) (ap is_eq (tied_itself name_cmp-total q)) in
    let f : true ≡ false = sym same ∙ e in cc

without-one : (b : Bool) (n less : ℕ) → less ≡ cond b (n - 1) n → n ≤ less + 1
without-one true n less e = omega (arith, e)
without-one false n less e = omega (arith, e)

pub no-more-keys : {X : Type 0} (names : List Name) (m : finite.FinMap name_cmp X) → ((q : Name) → finite.get m q ≢ None → Contains names q)
    → finite.len m ≤ length names
no-more-keys [] m among = omega (arith, none-there m among)
no-more-keys {X = X} (name ∷ names) m among =
    let more = no-more-keys names (finite.remove m name) later in
    let one = without-one (finite.contains_key m name) (finite.len m) (finite.len (finite.remove m name)) (finite.len-remove name_cmp-total m name) in
    omega (arith, more, one)
  where
    -- what is left under a key
    left : (q : Name) (b : Bool) → eq_by_cmp name_cmp q name ≡ b → cond b None (finite.get m q) ≢ None → Contains names q
    left q true e some = absurd (some refl)
    left q false e some =
        ⊎_elim
        (λ here. absurd (not-tied q name e (alone name q here)))
        (λ there. there)
        (Contains-append_cases (name ∷ []) names q (among q some))

    later : (q : Name) → finite.get (finite.remove m name) q ≢ None → Contains names q
    later q some = left q (eq_by_cmp name_cmp q name) refl (λ none. some (finite.get-remove name_cmp-total m name q ∙ none))

-- a chart that wasn't there before has no more features than names whose records differ
pub fresh-features : (old now : Option CellValue) (names : List Name) → old ≡ None → AreChanged old now names → features_in now ≤ length names
fresh-features old None names was h = omega arith
fresh-features old (Some chart) names was h =
    no-more-keys names chart.features (λ name some.
    ((subst (λ (o : Option CellValue). AreChanged o (Some chart) names) was h).exact name).1 (inr (λ none. some (sym none))))

-- ---- steps

abbrev pub within : StateValue → StateValue → ℕ → ℕ → ℕ → Type 0
within before now steps taken most = TakesAtMost most before now steps taken

-- nothing was accepted
pub within-none : (most : ℕ) (state : StateValue) (steps taken : ℕ) → taken ≤ steps + most → TakesAtMost most state state steps taken
within-none most state steps taken h =
    record { key = []; names = []; changed = unchanged (chart_of state.cells []); at_most = omega (arith, h) }

-- nothing was done
pub none-taken : (most : ℕ) (state : StateValue) (steps : ℕ) → TakesAtMost most state state steps steps
none-taken most state steps = within-none most state steps steps (omega arith)

-- the data records of a file that was fetched
pub file-within : (fetched : Result (List ℕ) LineRefusal) (bytes shown : List ℕ) (steps taken : ℕ) → fetched ≡ Ok bytes → shown ≡ bytes
    → taken ≤ steps + data_records_in tags_of_info shown → taken ≤ steps + records_of_file fetched
file-within fetched bytes shown steps taken found same h =
    subst (λ (n : ℕ). taken ≤ steps + n) (ap (data_records_in tags_of_info) same ∙ sym (ap records_of_file found)) h
