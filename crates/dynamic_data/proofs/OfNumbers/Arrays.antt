-- What is read of an array or a map is read of another whose items are read alike.
use Rattle.std.proofs.Common.{◌≡◌, refl, ℕ, suc, List, ◌∷◌, not, ◌==◌, Some, option_map, option_and_then, sym, ap, subst, ◌∙◌}
use Rattle.json.specs.Json as json
use Rattle.json.specs.Json.{Json}
use Rattle.serde_json.specs.Data as rows
use Rattle.serde_json.specs.Data.{Data}
use Rattle.serde_json.specs.Events.{items_len}
use Rattle.serde_json.specs.Read.{of_json, of_items}
use Rattle.xt_shapes.specs.declared.leaves.Step.{Step}
use Rattle.xt_shapes.specs.Shape.{product}
use Rattle.xt_shapes.specs.Typing.{is_past}
use Rattle.xt_shapes.specs.Vals.{Val, listed, vals_of}
use Rattle.json_values.specs.declared.faults.JsonRule.{JsonRule}
use Rattle.json_values.specs.Steps.{Reading, beneath, mapped_to}
use Rattle.json_values.specs.Read.{items_of, sequence_of, array_of, key_and_value, pair_of, entries_of, if_distinct, map_of_pairs}
use Rattle.dynamic_data.specs.numbers.Bits.{each_item, in_array, in_pair}
use Rattle.dynamic_data.specs.numbers.Walks.{Turn, ItemsTurn, ArrayTurns, PairTurns}
use Rattle.dynamic_data.proofs.OfNumbers.Onward.{Onward, and_then_some, map_some, onward_beneath, onward_mapped, onward_next, onward_unless}
use Rattle.dynamic_data.proofs.OfNumbers.Sound.{Sound, SoundItems, sound_items, first_item, later_items}

-- what f reads of one value it reads of another
abbrev pub Keeps : {A : Type 0} → (Data → Reading A) → Data → Data → Type 0
Keeps f d e = Onward (f d) (f e)

-- the value is data of which f reads what it reads of d
abbrev pub Comes : {A : Type 0} → (Data → Reading A) → Json → Data → Type 0
Comes f j d = (e : Data) × (of_json j ≡ Some e) × Keeps f d e

-- what may stand in place of a value means the same to f, after g
abbrev pub Turned : {A : Type 0} → Turn → (Json → Json) → (Data → Reading A) → Type 0
Turned S g f = (j k : Json) (d : Data) → Sound j → of_json j ≡ Some d → S j k → Comes f (g k) d

pub unturned : {A : Type 0} (f : Data → Reading A) (g : Json → Json) (j k : Json) (d : Data) → k ≡ j → g j ≡ j → of_json j ≡ Some d → Comes f (g k) d
unturned f g j k d turn same is = (d, ap (λ l. of_json (g l)) turn ∙ ap of_json same ∙ is, λ v h. h)

-- ---- items

abbrev pub ItemsKeep : {A : Type 0} → (Data → Reading A) → rows.Items → rows.Items → Type 0
ItemsKeep f rows.no_items es = es ≡ rows.no_items
ItemsKeep f (rows.item d ds) es = (e : Data) × (rest : rows.Items) × (es ≡ rows.item e rest) × Keeps f d e × ItemsKeep f ds rest

items_come : {A : Type 0} (S : Turn) (g : Json → Json) (f : Data → Reading A) → Turned S g f → (js ks : json.Items) (ds : rows.Items) → SoundItems js → of_items js ≡ Some ds → ItemsTurn S js ks
    → (es : rows.Items) × (of_items (each_item g ks) ≡ Some es) × ItemsKeep f ds es
items_come S g f step json.no_items ks ds s is turn =
    let same : ds ≡ rows.no_items = cc in
    (rows.no_items, ap (λ l. of_items (each_item g l)) turn, subst (λ l. ItemsKeep f l rows.no_items) (sym same) refl)
items_come S g f step (json.item j js) ks ds s is turn =
    let a = and_then_some (λ d. option_map (rows.item d) (of_items js)) (of_json j) ds is in
    let b = map_some (rows.item a.0) (of_items js) ds a.2 in
    let c = step j turn.0 a.0 (first_item j js s) a.1 turn.3 in
    let r = items_come S g f step js turn.1 b.0 (later_items j js s) b.1 turn.4 in (
      rows.item c.0 r.0,
      ap (λ l. of_items (each_item g l)) turn.2 ∙ ap (option_and_then (λ d. option_map (rows.item d) (of_items (each_item g turn.1)))) c.1 ∙ ap (option_map (rows.item c.0)) r.1,
      subst (λ l. ItemsKeep f l (rows.item c.0 r.0)) (sym b.2) (c.0, r.0, refl, c.2, r.2),
    )

len_kept : {A : Type 0} (f : Data → Reading A) (ds es : rows.Items) → ItemsKeep f ds es → items_len es ≡ items_len ds
len_kept f rows.no_items es h = ap items_len h
len_kept f (rows.item d ds) es h = ap items_len h.2 ∙ ap suc (len_kept f ds h.1 h.4)

items_kept : (f : Data → Reading Val) (ds es : rows.Items) → ItemsKeep f ds es → Onward (items_of f ds) (items_of f es)
items_kept f rows.no_items es h = subst (λ l. Onward (items_of f rows.no_items) (items_of f l)) (sym h) (λ v x. x)
items_kept f (rows.item d ds) es h =
    subst (λ l. Onward (items_of f (rows.item d ds)) (items_of f l)) (sym h.2)
    (onward_next (beneath Step.Element (f d)) (beneath Step.Element (f h.0)) (λ v. mapped_to (λ vs. v ∷ vs) (items_of f ds)) (λ v. mapped_to (λ vs. v ∷ vs) (items_of f h.1))
    (onward_beneath Step.Element (f d) (f h.0) h.3) (λ v e. onward_mapped (λ vs. v ∷ vs) (items_of f ds) (items_of f h.1) (items_kept f ds h.1 h.4)))

entries_kept : (f g : Data → Reading Val) (ds es : rows.Items) → ItemsKeep (pair_of f g) ds es → Onward (entries_of f g ds) (entries_of f g es)
entries_kept f g rows.no_items es h = subst (λ l. Onward (entries_of f g rows.no_items) (entries_of f g l)) (sym h) (λ v x. x)
entries_kept f g (rows.item d ds) es h =
    subst (λ l. Onward (entries_of f g (rows.item d ds)) (entries_of f g l)) (sym h.2)
    (onward_next (pair_of f g d) (pair_of f g h.0) (λ p. mapped_to (λ ps. p ∷ ps) (entries_of f g ds)) (λ p. mapped_to (λ ps. p ∷ ps) (entries_of f g h.1))
    h.3 (λ p e. onward_mapped (λ ps. p ∷ ps) (entries_of f g ds) (entries_of f g h.1) (entries_kept f g ds h.1 h.4)))

-- ---- arrays

array_come : {A : Type 0} (S : Turn) (g : Json → Json) (f : Data → Reading A) (F : Data → Reading Val) → Turned S g f
    → ((ds es : rows.Items) → ItemsKeep f ds es → Keeps F (rows.array ds) (rows.array es)) → Turned (ArrayTurns S) (in_array g) F
array_come S g f F step keep json.null k d s is turn = unturned F (in_array g) json.null k d turn refl is
array_come S g f F step keep (json.boolean b) k d s is turn = unturned F (in_array g) (json.boolean b) k d turn refl is
array_come S g f F step keep (json.number n) k d s is turn = unturned F (in_array g) (json.number n) k d turn refl is
array_come S g f F step keep (json.string t) k d s is turn = unturned F (in_array g) (json.string t) k d turn refl is
array_come S g f F step keep (json.array js) k d s is turn =
    let a = map_some rows.array (of_items js) d is in
    let r = items_come S g f step js turn.0 a.0 (sound_items js s) a.1 turn.2 in (
      rows.array r.0,
      ap (λ l. of_json (in_array g l)) turn.1 ∙ ap (option_map rows.array) r.1,
      subst (λ x. Keeps F x (rows.array r.0)) (sym a.2) (keep a.0 r.0 r.2),
    )
array_come S g f F step keep (json.object ms) k d s is turn = unturned F (in_array g) (json.object ms) k d turn refl is

pub sequence_come : (bound : ℕ) (S : Turn) (g : Json → Json) (f : Data → Reading Val) → Turned S g f → Turned (ArrayTurns S) (in_array g) (sequence_of bound f)
sequence_come bound S g f step =
    array_come S g f (sequence_of bound f) step
    (λ ds es h. onward_unless (is_past bound (items_len ds)) (is_past bound (items_len es)) JsonRule.Bound _ _ (ap (is_past bound) (len_kept f ds es h)) (onward_mapped (λ vs. listed (vals_of vs)) (items_of f ds) (items_of f es) (items_kept f ds es h)))

pub arrays_come : (dims : List ℕ) (S : Turn) (g : Json → Json) (f : Data → Reading Val) → Turned S g f → Turned (ArrayTurns S) (in_array g) (array_of dims f)
arrays_come dims S g f step =
    array_come S g f (array_of dims f) step
    (λ ds es h. onward_unless (not (items_len ds == product dims)) (not (items_len es == product dims)) JsonRule.Count _ _ (ap (λ n. not (n == product dims)) (len_kept f ds es h))
    (onward_mapped (λ vs. listed (vals_of vs)) (items_of f ds) (items_of f es) (items_kept f ds es h)))

-- ---- maps

pair_kept : (f g : Data → Reading Val) (a b c e : Data) → Keeps f a c → Keeps g b e → Onward (key_and_value f g a b) (key_and_value f g c e)
pair_kept f g a b c e first second =
    onward_next (beneath Step.Key (f a)) (beneath Step.Key (f c)) (λ x. mapped_to (λ y. (x, y)) (beneath Step.Entry (g b))) (λ x. mapped_to (λ y. (x, y)) (beneath Step.Entry (g e)))
    (onward_beneath Step.Key (f a) (f c) first) (λ x is. onward_mapped (λ y. (x, y)) (beneath Step.Entry (g b)) (beneath Step.Entry (g e)) (onward_beneath Step.Entry (g b) (g e) second))

abbrev two : Data → Data → Data
two a b = rows.array (rows.item a (rows.item b rows.no_items))

-- the data of two items
two_items : (a b : Json) (d : Data) → of_json (json.array (json.item a (json.item b json.no_items))) ≡ Some d → (x y : Data) × (of_json a ≡ Some x) × (of_json b ≡ Some y) × (d ≡ two x y)
two_items a b d is =
    let whole = map_some rows.array (of_items (json.item a (json.item b json.no_items))) d is in
    let first = and_then_some (λ x. option_map (rows.item x) (of_items (json.item b json.no_items))) (of_json a) whole.0 whole.1 in
    let rest = map_some (rows.item first.0) (of_items (json.item b json.no_items)) whole.0 first.2 in
    let second = and_then_some (λ x. option_map (rows.item x) (of_items json.no_items)) (of_json b) rest.0 rest.1 in
    let last : rest.0 ≡ rows.item second.0 rows.no_items = cc in
    (first.0, second.0, first.1, second.1, whole.2 ∙ ap rows.array (rest.2 ∙ ap (rows.item first.0) last))

pair_come : (S P : Turn) (g h : Json → Json) (f q : Data → Reading Val) → Turned S g f → Turned P h q → Turned (PairTurns S P) (in_pair g h) (pair_of f q)
pair_come S P g h f q key value json.null k d s is turn = unturned (pair_of f q) (in_pair g h) json.null k d turn refl is
pair_come S P g h f q key value (json.boolean b) k d s is turn = unturned (pair_of f q) (in_pair g h) (json.boolean b) k d turn refl is
pair_come S P g h f q key value (json.number n) k d s is turn = unturned (pair_of f q) (in_pair g h) (json.number n) k d turn refl is
pair_come S P g h f q key value (json.string t) k d s is turn = unturned (pair_of f q) (in_pair g h) (json.string t) k d turn refl is
pair_come S P g h f q key value (json.array json.no_items) k d s is turn = unturned (pair_of f q) (in_pair g h) (json.array json.no_items) k d turn refl is
pair_come S P g h f q key value (json.array (json.item a json.no_items)) k d s is turn = unturned (pair_of f q) (in_pair g h) (json.array (json.item a json.no_items)) k d turn refl is
pair_come S P g h f q key value (json.array (json.item a (json.item b json.no_items))) k d s is turn =
    let parts = two_items a b d is in
    let both = sound_items (json.item a (json.item b json.no_items)) s in
    let x = key a turn.0 parts.0 (first_item a (json.item b json.no_items) both) parts.2 turn.3 in
    let y = value b turn.1 parts.1 (first_item b json.no_items (later_items a (json.item b json.no_items) both)) parts.3 turn.4 in (
      two x.0 y.0,
      ap (λ l. of_json (in_pair g h l)) turn.2 ∙ rw (x.1, y.1) refl,
      subst (λ l. Keeps (pair_of f q) l (two x.0 y.0)) (sym parts.4) (pair_kept f q parts.0 parts.1 x.0 y.0 x.2 y.2),
    )
pair_come S P g h f q key value (json.array (json.item a (json.item b (json.item c js)))) k d s is turn =
    unturned (pair_of f q) (in_pair g h) (json.array (json.item a (json.item b (json.item c js)))) k d turn refl is
pair_come S P g h f q key value (json.object ms) k d s is turn = unturned (pair_of f q) (in_pair g h) (json.object ms) k d turn refl is

pub map_come : (bound : ℕ) (S P : Turn) (g h : Json → Json) (f q : Data → Reading Val) → Turned S g f → Turned P h q
    → Turned (ArrayTurns (PairTurns S P)) (in_array (in_pair g h)) (map_of_pairs bound f q)
map_come bound S P g h f q key value =
    array_come (PairTurns S P) (in_pair g h) (pair_of f q) (map_of_pairs bound f q) (pair_come S P g h f q key value)
    (λ ds es same. onward_unless (is_past bound (items_len ds)) (is_past bound (items_len es)) JsonRule.Bound _ _ (ap (is_past bound) (len_kept (pair_of f q) ds es same))
    (onward_next (entries_of f q ds) (entries_of f q es) if_distinct if_distinct (entries_kept f q ds es same) (λ ps e v x. x)))
