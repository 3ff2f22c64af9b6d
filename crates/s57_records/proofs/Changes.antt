-- A change that a record stands for keeps what every change keeps.
use Rattle.std.proofs.Common.{◌≡◌, ℕ, ◌≤◌, Bool, true, false, cond, not, ◌&&◌, ◌||◌, eqb, ◌⊎◌, List, [], ◌++◌, Option, Some, None, Result, Ok, Err, refl, sym, ap, subst, ◌∙◌, inl, inr, arith, append-nil, All}
use Rattle.std.specs.Prelude.{codes, IsSome, IsNone}
use Rattle.std.proofs.lemmas.Bool.{and_parts, or_cases, eqb-true, eq-eqb, leb-true, true≢false}
use Rattle.common_lemmas.proofs.Choices.{chosen}
use Rattle.chart_model.specs.declared.name.Name.{Name}
use Rattle.chart_model.specs.declared.name.Foid.{Foid}
use Rattle.chart_model.specs.declared.record.Attr.{Attr}
use Rattle.chart_model.specs.declared.record.Pointer.{Pointer}
use Rattle.chart_model.specs.declared.record.Coord.{Coord}
use Rattle.chart_model.specs.declared.record.Related.{Related}
use Rattle.chart_model.specs.declared.update_record.Control.{Control}
use Rattle.chart_model.specs.Change.{Change, IsChange, IsEdit, IsInstruction}
use Rattle.chart_model.specs.Dataset.{IsPlainInsert}
use Rattle.chart_model.specs.Key.{IsKey}
use Rattle.chart_model.specs.Record.{IsVectorName, AreCoords, IsCoord, IsPlainText, IsPrim}
use Rattle.s57_records.specs.declared.fault.DatasetFault.{DatasetFault}
use Rattle.s57_records.specs.declared.fault.DatasetFault.TheVariants.{MissingField, Value, Profile}
use Rattle.s57_records.specs.Subfields.{Subfields}
use Rattle.s57_records.specs.declared.change.VectorHead.{VectorHead}
use Rattle.s57_records.specs.declared.change.FeatureHead.{FeatureHead}
use Rattle.chart_model.specs.Answers.{◌>>=◌}
use Rattle.s57_subfields.specs.Number.{ONE_BYTE, TWO_BYTES, FOUR_BYTES}
use Rattle.s57_records.specs.Rows.{ensure, reads_as, is_instruction, ruin_of, unless_deleted, edit_of, is_vector_kind, vector_head, coords_of, vector_change, vector_of, is_prim, inserts, checked_prim, foid_of, feature_head, feature_change, feature_of}
use Rattle.s57_records.proofs.AnswerLemmas.{bind_ok, bind_then, ensure_ok, ok_is}

-- what the lists of a record keep
pub record AreWithinLimits (s : Subfields) : Type 0 where
  pub attrs : (tag : List ℕ) (attrs : List Attr) → s.attrs tag ≡ Ok attrs → All (λ attr. IsPlainText attr.value) attrs
  pub sg2d : (coords : List Coord) → s.coords (codes "SG2D") ≡ Ok coords → All IsCoord coords × All (λ coord. IsNone coord.z) coords
  pub sg3d : (coords : List Coord) → s.coords (codes "SG3D") ≡ Ok coords → All IsCoord coords × All (λ coord. IsSome coord.z) coords
  pub absent : (tag : List ℕ) (coords : List Coord) → s.has tag ≡ false → s.coords tag ≡ Ok coords → coords ≡ []
  pub digits : (tag label : List ℕ) (number : ℕ) → s.digits tag label ≡ Ok number → number ≤ 999999999
  pub topi : (pointers : List Pointer) → s.pointers (codes "FSPT") ≡ Ok pointers → All (λ pointer. pointer.topi ≡ 255) pointers

-- the keys that a record's subfields read as
abbrev pub HasKeys : Subfields → Type 0
HasKeys s = (tag label key : List ℕ) → s.key tag label ≡ Ok key → IsKey key

is_instruction_range : (n : ℕ) → is_instruction n ≡ true → IsInstruction n
is_instruction_range n h =
    let p = and_parts _ _ h in
    (leb-true 1 n p.0, leb-true n 3 p.1)

ruin_is : (base : Bool) (n : ℕ) (s : Subfields) (tag : List ℕ) (ruin : ℕ) → ruin_of base n s tag ≡ Ok ruin → IsInstruction ruin
unfolding ruin_of
ruin_is base n s tag ruin e =
    elim (chosen base (Ok 1) (s.number tag (codes "RUIN") ONE_BYTE >>= λ r. ensure (is_instruction r) (Value n (codes "RUIN")) >>= λ _. Ok r) (Ok ruin) e) [
      | inl h ↦ let one : 1 ≡ ruin = ok_is 1 ruin h.1 in (omega arith, omega arith)
      | inr h ↦
          let r = bind_ok (s.number tag (codes "RUIN") ONE_BYTE) _ ruin h.1 in
          let t = bind_ok (ensure (is_instruction r.0) (Value n (codes "RUIN"))) _ ruin r.2 in
          subst IsInstruction (ok_is r.0 ruin t.2) (is_instruction_range r.0 (ensure_ok _ _ _ t.1))
    ]

pub edit_is : (base : Bool) (ruin n : ℕ) (s : Subfields) (tag a b c : List ℕ) (edit : Option Control) → edit_of base ruin n s tag a b c ≡ Ok edit → IsEdit edit
unfolding edit_of
edit_is base ruin n s tag a b c edit e =
    elim (chosen (not base && (eqb ruin 3 && s.has tag)) _ (Ok None) (Ok edit) e) [
      | inl h ↦
          let i = bind_ok (s.number tag a ONE_BYTE) _ edit h.1 in
          let t = bind_ok (ensure (is_instruction i.0) (Value n a)) _ edit i.2 in
          let x = bind_ok (s.number tag b TWO_BYTES) _ edit t.2 in
          let k = bind_ok (s.number tag c TWO_BYTES) _ edit x.2 in
          subst IsEdit (ok_is (Some (record { instruction = i.0; index = x.0; count = k.0 })) edit k.2) (is_instruction_range i.0 (ensure_ok _ _ _ t.1))
      | inr h ↦ subst IsEdit (ok_is None edit h.1) tt
    ]

vector_name : (name : Name) → is_vector_kind name.rcnm ≡ true → IsVectorName name
vector_name name h =
    elim (or_cases _ _ h) [
      | inl a ↦ inl (eqb-true _ _ a)
      | inr o ↦ elim (or_cases _ _ o) [ inl b ↦ inr (inl (eqb-true _ _ b)) | inr d ↦ inr (inr (eqb-true _ _ d)) ]
    ]

-- ---- lists

pub All-nil : {X : Type 0} (P : X → Type 0) → All P []
All-nil P = λ k d lt. absurd (omega arith)

kept : {A : Type 0} (P : List A → Type 0) (ruin : ℕ) (items : Result (List A) DatasetFault) (xs : List A) → P [] → ((ys : List A) → items ≡ Ok ys → P ys) → unless_deleted ruin items ≡ Ok xs → P xs
kept P ruin items xs none some e =
    elim (chosen (eqb ruin 2) (Ok []) items (Ok xs) e) [
      | inl h ↦ subst P (ok_is [] xs h.1) none
      | inr h ↦ some xs h.1
    ]

abbrev AreWithoutDepth : List Coord → Type 0
AreWithoutDepth coords = All IsCoord coords × All (λ coord. IsNone coord.z) coords

abbrev AreWithDepth : List Coord → Type 0
AreWithDepth coords = All IsCoord coords × All (λ coord. IsSome coord.z) coords

either_absent : (x y : Bool) → not (x && y) ≡ true → (x ≡ false) ⊎ (y ≡ false)
either_absent false y e = inl refl
either_absent true false e = inr refl
either_absent true true e = absurd cc

coords_are : (s : Subfields) → AreWithinLimits s → (ruin : ℕ) (coordinates soundings : List Coord) → unless_deleted ruin (s.coords (codes "SG2D")) ≡ Ok coordinates → unless_deleted ruin (s.coords (codes "SG3D")) ≡ Ok soundings → not (s.has (codes "SG2D") && s.has (codes "SG3D")) ≡ true → AreCoords (coordinates ++ soundings)
coords_are s limits ruin coordinates soundings f d one =
    let without_depth : AreWithoutDepth coordinates = kept AreWithoutDepth ruin (s.coords (codes "SG2D")) coordinates (All-nil _, All-nil _) limits.sg2d f in
    let with_depth : AreWithDepth soundings = kept AreWithDepth ruin (s.coords (codes "SG3D")) soundings (All-nil _, All-nil _) limits.sg3d d in
    elim (either_absent (s.has (codes "SG2D")) (s.has (codes "SG3D")) one) [
      | inl no_coordinates ↦
          let none : coordinates ≡ [] = kept (λ xs. xs ≡ []) ruin (s.coords (codes "SG2D")) coordinates refl (λ ys e. limits.absent (codes "SG2D") ys no_coordinates e) f in
          subst (λ (cs : List Coord). AreCoords (cs ++ soundings)) (sym none) (record { each = with_depth.0; alike = inl with_depth.1 })
      | inr no_soundings ↦
          let none : soundings ≡ [] = kept (λ xs. xs ≡ []) ruin (s.coords (codes "SG3D")) soundings refl (λ ys e. limits.absent (codes "SG3D") ys no_soundings e) d in
          subst (λ (cs : List Coord). AreCoords (coordinates ++ cs)) (sym none) (subst AreCoords (sym (append-nil coordinates)) (record { each = without_depth.0; alike = inr without_depth.1 }))
    ]

-- the coordinates that are read where none of the two lists has a fault
coords_read : (s : Subfields) (ruin : ℕ) (coordinates soundings : List Coord) → unless_deleted ruin (s.coords (codes "SG2D")) ≡ Ok coordinates → unless_deleted ruin (s.coords (codes "SG3D")) ≡ Ok soundings → (s.has (codes "SG2D") && s.has (codes "SG3D")) ≡ false → coords_of ruin s ≡ Ok (coordinates ++ soundings)
unfolding coords_of
coords_read s ruin coordinates soundings f d one =
    λ i. f i >>= (λ cs. ensure (not (one i)) (Profile (codes "SG3D")) >>= (λ _. d i >>= (λ ss. Ok (cs ++ ss))))

-- those of SG2D, where that field is there and the other isn't
pub coords_of_sg2d : (s : Subfields) → AreWithinLimits s → (ruin : ℕ) (coordinates soundings : List Coord) → unless_deleted ruin (s.coords (codes "SG2D")) ≡ Ok coordinates → unless_deleted ruin (s.coords (codes "SG3D")) ≡ Ok soundings → s.has (codes "SG2D") ≡ true → s.has (codes "SG3D") ≡ false → coords_of ruin s ≡ Ok coordinates
coords_of_sg2d s limits ruin coordinates soundings f d there no_soundings =
    let none : soundings ≡ [] = kept (λ xs. xs ≡ []) ruin (s.coords (codes "SG3D")) soundings refl (λ ys e. limits.absent (codes "SG3D") ys no_soundings e) d in
    coords_read s ruin coordinates soundings f d (λ i. there i && no_soundings i)
    ∙ ap (λ (cs : List Coord). Ok (coordinates ++ cs)) none ∙ ap (λ (cs : List Coord). Ok cs) (append-nil coordinates)

-- those of SG3D, where SG2D isn't there
pub coords_of_sg3d : (s : Subfields) → AreWithinLimits s → (ruin : ℕ) (coordinates soundings : List Coord) → unless_deleted ruin (s.coords (codes "SG2D")) ≡ Ok coordinates → unless_deleted ruin (s.coords (codes "SG3D")) ≡ Ok soundings → s.has (codes "SG2D") ≡ false → coords_of ruin s ≡ Ok soundings
coords_of_sg3d s limits ruin coordinates soundings f d no_coordinates =
    let none : coordinates ≡ [] = kept (λ xs. xs ≡ []) ruin (s.coords (codes "SG2D")) coordinates refl (λ ys e. limits.absent (codes "SG2D") ys no_coordinates e) f in
    coords_read s ruin coordinates soundings f d (λ i. no_coordinates i && s.has (codes "SG3D"))
    ∙ ap (λ (cs : List Coord). Ok (cs ++ soundings)) none

pub are_coords : (s : Subfields) → AreWithinLimits s → (ruin : ℕ) (coords : List Coord) → coords_of ruin s ≡ Ok coords → AreCoords coords
unfolding coords_of
are_coords s limits ruin coords e =
    bind_then (unless_deleted ruin (s.coords (codes "SG2D"))) _ coords e (λ coordinates coordinates_e after_coordinates.
    bind_then (ensure (not (s.has (codes "SG2D") && s.has (codes "SG3D"))) (Profile (codes "SG3D"))) _ coords after_coordinates (λ _ one_e after_one.
    bind_then (unless_deleted ruin (s.coords (codes "SG3D"))) _ coords after_one (λ soundings soundings_e made.
    subst AreCoords (ok_is (coordinates ++ soundings) coords made) (coords_are s limits ruin coordinates soundings coordinates_e soundings_e (ensure_ok _ _ _ one_e)))))

-- what a vector record's head keeps
pub record IsVectorHead (base : Bool) (n : ℕ) (s : Subfields) (head : VectorHead) : Type 0 where
  kind : is_vector_kind head.target.rcnm ≡ true
  ruin : ruin_of base n s (codes "VRID") ≡ Ok head.ruin

pub vector_head_is : (base : Bool) (n : ℕ) (s : Subfields) (head : VectorHead) → vector_head base n s ≡ Ok head → IsVectorHead base n s head
unfolding vector_head
vector_head_is base n s head e =
    bind_then (s.number (codes "VRID") (codes "RCNM") ONE_BYTE) _ head e (λ rcnm rcnm_e after_rcnm.
    bind_then (ensure (is_vector_kind rcnm) (Profile (codes "RCNM"))) _ head after_rcnm (λ _ kind_e after_kind.
    bind_then (s.number (codes "VRID") (codes "RCID") FOUR_BYTES) _ head after_kind (λ rcid rcid_e after_rcid.
    bind_then (s.number (codes "VRID") (codes "RVER") TWO_BYTES) _ head after_rcid (λ version version_e after_version.
    bind_then (ruin_of base n s (codes "VRID")) _ head after_version (λ ruin ruin_e made.
    subst (IsVectorHead base n s) (ok_is _ head made) (record { kind = ensure_ok _ _ _ kind_e; ruin = ruin_e }))))))

not_both : (rcnm : ℕ) → is_vector_kind rcnm ≡ true → rcnm ≡ 100 → ⊥
not_both rcnm vector feature = true≢false (sym vector ∙ ap is_vector_kind feature)

-- a vector record's change, from its parts
pub vector_made : (base : Bool) (n : ℕ) (s : Subfields) (limits : AreWithinLimits s) (head : VectorHead) (attrs : List Attr) (pointer_edit : Option Control) (pointers : List Pointer) (coord_edit : Option Control) (coords : List Coord) → IsVectorHead base n s head → unless_deleted head.ruin (s.attrs (codes "ATTV")) ≡ Ok attrs → IsEdit pointer_edit → IsEdit coord_edit → AreCoords coords → IsChange (vector_change head attrs pointer_edit pointers coord_edit coords)
vector_made base n s limits head attrs pointer_edit pointers coord_edit coords is attrs_e pointer_e coord_e coords_e = record {
  target = inl (vector_name head.target is.kind);
  ruin = ruin_is base n s (codes "VRID") head.ruin is.ruin;
  pointer_edit = pointer_e;
  coord_edit = coord_e;
  related_edit = tt;
  attrs = kept (λ xs. All (λ attr. IsPlainText attr.value) xs) head.ruin (s.attrs (codes "ATTV")) attrs (All-nil _) (limits.attrs (codes "ATTV")) attrs_e;
  coords = coords_e;
  vector = λ _. record { prim = refl; grup = refl; class = refl; foid = refl; related_edit = refl; related = refl };
  feature = λ other. absurd (not_both head.target.rcnm is.kind other);
  insert = λ other _. absurd (not_both head.target.rcnm is.kind other);
}

pub vector_is_change : (base : Bool) (n : ℕ) (s : Subfields) (change : Change) → AreWithinLimits s → vector_of base n s ≡ Ok change → IsChange change
unfolding vector_of
vector_is_change base n s change limits e =
    bind_then (vector_head base n s) _ change e (λ head head_e after_head.
    bind_then (unless_deleted head.ruin (s.attrs (codes "ATTV"))) _ change after_head (λ attrs attrs_e after_attrs.
    bind_then (edit_of base head.ruin n s (codes "VRPC") (codes "VPUI") (codes "VPIX") (codes "NVPT")) _ change after_attrs (λ pointer_edit pointer_edit_e after_pointer_edit.
    bind_then (unless_deleted head.ruin (s.pointers (codes "VRPT"))) _ change after_pointer_edit (λ pointers pointers_e after_pointers.
    bind_then (edit_of base head.ruin n s (codes "SGCC") (codes "CCUI") (codes "CCIX") (codes "CCNC")) _ change after_pointers (λ coord_edit coord_edit_e after_coord_edit.
    bind_then (coords_of head.ruin s) _ change after_coord_edit (λ coords coords_e after_coords.
    bind_then (ensure (not (s.has (codes "ARCC"))) (Profile (codes "ARCC"))) _ change after_coords (λ _ arcs_e made.
    subst IsChange (ok_is _ change made) (vector_made base n s limits head attrs pointer_edit pointers coord_edit coords (vector_head_is base n s head head_e) attrs_e (edit_is base head.ruin n s _ _ _ _ pointer_edit pointer_edit_e) (edit_is base head.ruin n s _ _ _ _ coord_edit coord_edit_e) (are_coords s limits head.ruin coords coords_e)))))))))

-- ---- features

inserts_where : (base : Bool) (n : ℕ) (s : Subfields) (ruin : ℕ) → ruin_of base n s (codes "FRID") ≡ Ok ruin → ruin ≡ 1 → inserts base s ≡ true
unfolding ruin_of
inserts_where true n s ruin e one = refl
inserts_where false n s ruin e one =
    bind_then (s.number (codes "FRID") (codes "RUIN") ONE_BYTE) _ ruin e (λ r r_e after_r.
    bind_then (ensure (is_instruction r) (Value n (codes "RUIN"))) _ ruin after_r (λ _ test_e made.
    ap (λ (x : Result ℕ DatasetFault). reads_as x 1) r_e ∙ eq-eqb r 1 (ok_is r ruin made ∙ one)))

prim_range : (prim : ℕ) → is_prim prim ≡ true → IsPrim prim
prim_range prim h =
    elim (or_cases _ _ h) [
      | inl a ↦ inl (is_instruction_range prim a)
      | inr b ↦ inr (eqb-true prim 255 b)
    ]

prim_is : (base : Bool) (n : ℕ) (s : Subfields) (prim ruin : ℕ) → (not (inserts base s) || is_prim prim) ≡ true → ruin_of base n s (codes "FRID") ≡ Ok ruin → ruin ≡ 1 → IsPrim prim
prim_is base n s prim ruin test e one =
    prim_range prim (ap (λ (b : Bool). not b || is_prim prim) (sym (inserts_where base n s ruin e one)) ∙ test)

foid_some : (ruin n : ℕ) (s : Subfields) (foid : Option Foid) → foid_of ruin n s ≡ Ok foid → ruin ≡ 1 → IsSome foid
unfolding foid_of
foid_some ruin n s foid e one =
    elim (chosen (s.has (codes "FOID")) (s.foid >>= λ f. Ok (Some f)) (cond (eqb ruin 1) (Err (MissingField n (codes "FOID"))) (Ok None)) (Ok foid) e) [
      | inl h ↦ bind_then s.foid _ foid h.1 (λ f f_e made. subst IsSome (ok_is (Some f) foid made) refl)
      | inr h ↦
          let missing : ◌≡◌ {A = Result (Option Foid) DatasetFault} (Err (MissingField n (codes "FOID"))) (Ok foid) = ap (λ (b : Bool). cond b (Err (MissingField n (codes "FOID"))) (Ok None)) (sym (eq-eqb ruin 1 one)) ∙ h.1 in
          absurd cc
    ]

vector_differs : (rcnm : ℕ) → rcnm ≡ 100 → (rcnm ≡ 110) ⊎ ((rcnm ≡ 120) ⊎ (rcnm ≡ 130)) → ⊥
vector_differs rcnm feature (inl h) = omega (arith, feature, h)
vector_differs rcnm feature (inr (inl h)) = omega (arith, feature, h)
vector_differs rcnm feature (inr (inr h)) = omega (arith, feature, h)

-- what a feature's head keeps
pub record IsFeatureHead (base : Bool) (n : ℕ) (s : Subfields) (head : FeatureHead) : Type 0 where
  kind : head.target.rcnm ≡ 100
  prim : (not (inserts base s) || is_prim head.prim) ≡ true
  ruin : ruin_of base n s (codes "FRID") ≡ Ok head.ruin

pub feature_head_is : (base : Bool) (n : ℕ) (s : Subfields) (head : FeatureHead) → feature_head base n s ≡ Ok head → IsFeatureHead base n s head
unfolding feature_head
feature_head_is base n s head e =
    bind_then (s.number (codes "FRID") (codes "RCNM") ONE_BYTE) _ head e (λ rcnm rcnm_e after_rcnm.
    bind_then (ensure (eqb rcnm 100) (Profile (codes "RCNM"))) _ head after_rcnm (λ _ kind_e after_kind.
    bind_then (s.number (codes "FRID") (codes "RCID") FOUR_BYTES) _ head after_kind (λ rcid rcid_e after_rcid.
    bind_then (s.number (codes "FRID") (codes "PRIM") ONE_BYTE) _ head after_rcid (λ prim prim_e after_prim.
    bind_then (checked_prim base n s prim) _ head after_prim (λ _ listed_e after_listed.
    bind_then (s.number (codes "FRID") (codes "GRUP") ONE_BYTE) _ head after_listed (λ grup grup_e after_grup.
    bind_then (s.number (codes "FRID") (codes "OBJL") TWO_BYTES) _ head after_grup (λ class class_e after_class.
    bind_then (s.number (codes "FRID") (codes "RVER") TWO_BYTES) _ head after_class (λ version version_e after_version.
    bind_then (ruin_of base n s (codes "FRID")) _ head after_version (λ ruin ruin_e made.
    subst (IsFeatureHead base n s) (ok_is _ head made) (record { kind = eqb-true rcnm 100 (ensure_ok _ _ _ kind_e); prim = ensure_ok _ _ _ listed_e; ruin = ruin_e }))))))))))

-- a feature's change, from its parts
pub feature_made : (base : Bool) (n : ℕ) (s : Subfields) (limits : AreWithinLimits s) (head : FeatureHead) (foid : Option Foid) (attrs : List Attr) (related_edit : Option Control) (related : List Related) (pointer_edit : Option Control) (pointers : List Pointer) → IsFeatureHead base n s head → foid_of head.ruin n s ≡ Ok foid → unless_deleted head.ruin (s.attrs (codes "ATTF")) ≡ Ok attrs → IsEdit related_edit → IsEdit pointer_edit → unless_deleted head.ruin (s.pointers (codes "FSPT")) ≡ Ok pointers → IsChange (feature_change head foid attrs related_edit related pointer_edit pointers)
feature_made base n s limits head foid attrs related_edit related pointer_edit pointers is foid_e attrs_e related_edit_e pointer_edit_e pointers_e = record {
  target = inr is.kind;
  ruin = ruin_is base n s (codes "FRID") head.ruin is.ruin;
  pointer_edit = pointer_edit_e;
  coord_edit = tt;
  related_edit = related_edit_e;
  attrs = kept (λ xs. All (λ attr. IsPlainText attr.value) xs) head.ruin (s.attrs (codes "ATTF")) attrs (All-nil _) (limits.attrs (codes "ATTF")) attrs_e;
  coords = record { each = All-nil _; alike = inl (All-nil _) };
  vector = λ other. absurd (vector_differs head.target.rcnm is.kind other);
  feature = λ _. record {
    coord_edit = refl;
    coords = refl;
    topi = kept (λ xs. All (λ pointer. pointer.topi ≡ 255) xs) head.ruin (s.pointers (codes "FSPT")) pointers (All-nil _) limits.topi pointers_e;
  };
  insert = λ _ one. record { prim = prim_is base n s head.prim head.ruin is.prim is.ruin one; foid = foid_some head.ruin n s foid foid_e one };
}

pub feature_is_change : (base : Bool) (n : ℕ) (s : Subfields) (change : Change) → AreWithinLimits s → feature_of base n s ≡ Ok change → IsChange change
unfolding feature_of
feature_is_change base n s change limits e =
    bind_then (feature_head base n s) _ change e (λ head head_e after_head.
    bind_then (foid_of head.ruin n s) _ change after_head (λ foid foid_e after_foid.
    bind_then (unless_deleted head.ruin (s.attrs (codes "ATTF"))) _ change after_foid (λ attrs attrs_e after_attrs.
    bind_then (edit_of base head.ruin n s (codes "FFPC") (codes "FFUI") (codes "FFIX") (codes "NFPT")) _ change after_attrs (λ related_edit related_edit_e after_related_edit.
    bind_then (unless_deleted head.ruin (s.related (codes "FFPT"))) _ change after_related_edit (λ related related_e after_related.
    bind_then (edit_of base head.ruin n s (codes "FSPC") (codes "FSUI") (codes "FSIX") (codes "NSPT")) _ change after_related (λ pointer_edit pointer_edit_e after_pointer_edit.
    bind_then (unless_deleted head.ruin (s.pointers (codes "FSPT"))) _ change after_pointer_edit (λ pointers pointers_e made.
    subst IsChange (ok_is _ change made) (feature_made base n s limits head foid attrs related_edit related pointer_edit pointers (feature_head_is base n s head head_e) foid_e attrs_e (edit_is base head.ruin n s _ _ _ _ related_edit related_edit_e) (edit_is base head.ruin n s _ _ _ _ pointer_edit pointer_edit_e) pointers_e))))))))

-- ---- a base file's records

inserted : (n : ℕ) (s : Subfields) (tag : List ℕ) (ruin : ℕ) → ruin_of true n s tag ≡ Ok ruin → ruin ≡ 1
unfolding ruin_of
inserted n s tag ruin e = sym (ok_is 1 ruin e)

no_edit : (ruin n : ℕ) (s : Subfields) (tag a b c : List ℕ) (edit : Option Control) → edit_of true ruin n s tag a b c ≡ Ok edit → edit ≡ None
unfolding edit_of
no_edit ruin n s tag a b c edit e = sym (ok_is None edit e)

pub vector_is_plain : (n : ℕ) (s : Subfields) (change : Change) → vector_of true n s ≡ Ok change → IsPlainInsert change
unfolding vector_of
vector_is_plain n s change e =
    bind_then (vector_head true n s) _ change e (λ head head_e after_head.
    bind_then (unless_deleted head.ruin (s.attrs (codes "ATTV"))) _ change after_head (λ attrs attrs_e after_attrs.
    bind_then (edit_of true head.ruin n s (codes "VRPC") (codes "VPUI") (codes "VPIX") (codes "NVPT")) _ change after_attrs (λ pointer_edit pointer_edit_e after_pointer_edit.
    bind_then (unless_deleted head.ruin (s.pointers (codes "VRPT"))) _ change after_pointer_edit (λ pointers pointers_e after_pointers.
    bind_then (edit_of true head.ruin n s (codes "SGCC") (codes "CCUI") (codes "CCIX") (codes "CCNC")) _ change after_pointers (λ coord_edit coord_edit_e after_coord_edit.
    bind_then (coords_of head.ruin s) _ change after_coord_edit (λ coords coords_e after_coords.
    bind_then (ensure (not (s.has (codes "ARCC"))) (Profile (codes "ARCC"))) _ change after_coords (λ _ arcs_e made.
    subst IsPlainInsert (ok_is _ change made) (record { ruin = inserted n s _ head.ruin (vector_head_is true n s head head_e).ruin; pointer_edit = no_edit head.ruin n s _ _ _ _ pointer_edit pointer_edit_e; coord_edit = no_edit head.ruin n s _ _ _ _ coord_edit coord_edit_e; related_edit = refl }))))))))

pub feature_is_plain : (n : ℕ) (s : Subfields) (change : Change) → feature_of true n s ≡ Ok change → IsPlainInsert change
unfolding feature_of
feature_is_plain n s change e =
    bind_then (feature_head true n s) _ change e (λ head head_e after_head.
    bind_then (foid_of head.ruin n s) _ change after_head (λ foid foid_e after_foid.
    bind_then (unless_deleted head.ruin (s.attrs (codes "ATTF"))) _ change after_foid (λ attrs attrs_e after_attrs.
    bind_then (edit_of true head.ruin n s (codes "FFPC") (codes "FFUI") (codes "FFIX") (codes "NFPT")) _ change after_attrs (λ related_edit related_edit_e after_related_edit.
    bind_then (unless_deleted head.ruin (s.related (codes "FFPT"))) _ change after_related_edit (λ related related_e after_related.
    bind_then (edit_of true head.ruin n s (codes "FSPC") (codes "FSUI") (codes "FSIX") (codes "NSPT")) _ change after_related (λ pointer_edit pointer_edit_e after_pointer_edit.
    bind_then (unless_deleted head.ruin (s.pointers (codes "FSPT"))) _ change after_pointer_edit (λ pointers pointers_e made.
    subst IsPlainInsert (ok_is _ change made) (record { ruin = inserted n s _ head.ruin (feature_head_is true n s head head_e).ruin; pointer_edit = no_edit head.ruin n s _ _ _ _ pointer_edit pointer_edit_e; coord_edit = refl; related_edit = no_edit head.ruin n s _ _ _ _ related_edit related_edit_e }))))))))
