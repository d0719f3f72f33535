-- A put goes to the place of its key.
use Rattle.std.proofs.Common.{◌≡◌, ℕ, zero, suc, ◌<◌, ◌+◌, Bool, true, false, cond, not, position, List, [], ◌∷◌, ◌++◌, map, length, slice_get, Option, Some, None, is_some, refl, sym, ap, ◌∙◌, if◌then◌else◌, inl, inr, arith}
use Rattle.std.proofs.lemmas.Bool.{cases_Bool, both_ways}
use Rattle.std.proofs.lemmas.List.{map_push}
use Rattle.std.specs.List.{position_or_len}
use Rattle.std.specs.Map.{lookup, keys_of}
use Rattle.std.specs.Str.{bytes_eq}
use Rattle.key_instances.specs.kept.Kept.{InstancesOf, last, put, has_key}
use Rattle.key_instances.proofs.OfKept.Keys.{turned_bytes}
use Rattle.indexmap.specs.IndexMap.{IndexMap, get, insert_entry, set_value_at}
use Rattle.indexmap.proofs.MapLemmas.{Found-position}
use Rattle.indexmap.proofs.CallerLemmas.{insert_entry-new}
use Rattle.key_instances.specs.Caches.{again_at}
use Rattle.key_instances.specs.Held.{held}
use Rattle.key_instances.specs.declared.entry.Entry.{Entry}

module _ {V : Type 0} (key : List ℕ) where
  has_by : (b c : Bool) (e : Entry V) (h : Bool) (o : Option (Entry V)) → b ≡ c → h ≡ is_some o → (if b then true else h) ≡ is_some (cond c (Some e) o)
  has_by true true e h o same more = refl
  has_by false false e h o same more = more
  has_by true false e h o same more = absurd (both_ways true same refl)
  has_by false true e h o same more = absurd (both_ways false refl same)

  -- a key is there where the map finds it
  pub has_is : (es : List (List ℕ × Entry V)) → has_key key (map held es) ≡ is_some (lookup (bytes_eq key) es)
  has_is [] = refl
  has_is (e ∷ es) = has_by (bytes_eq e.0 key) (bytes_eq key e.0) e.1 (has_key key (map held es)) (lookup (bytes_eq key) es) (turned_bytes e.0 key) (has_is es)

  pub absent_is : (o : Option (Entry V)) → is_some o ≡ false → o ≡ None
  absent_is None e = refl
  absent_is (Some x) e = absurd cc

  -- a new key goes last
  pub put_last : {S : Type 0} (m : IndexMap (List ℕ) (Entry V) S) (e : Entry V) → has_key key (map held m.entries) ≡ false → map held (insert_entry bytes_eq m.entries key e) ≡ map held m.entries ++ (key, e.values.items) ∷ []
  put_last m e h =
      let absent : get bytes_eq m key ≡ None = absent_is (lookup (bytes_eq key) m.entries) (sym (has_is m.entries) ∙ h) in
      ap (map held) (insert_entry-new bytes_eq m key e absent) ∙ map_push held m.entries (key, e)

  module _ (n : ℕ) (v : V) where
    -- a key that isn't there goes last
    pub put_new : (es : InstancesOf V) → has_key key es ≡ false → put n es key v ≡ es ++ (key, v ∷ []) ∷ []
    put_new [] h = refl
    put_new (e ∷ es) h = elim (cases_Bool (bytes_eq e.0 key)) [
      | inl y ↦ absurd (both_ways true (sym (ap (λ (b : Bool). if b then true else has_key key es) y) ∙ h) refl)
      | inr m ↦ ap (λ (b : Bool). if b then (e.0, last n (e.1 ++ v ∷ [])) ∷ es else e ∷ put n es key v) m ∙ ap (λ fs. e ∷ fs) (put_new es (sym (ap (λ (b : Bool). if b then true else has_key key es) m) ∙ h))
    ]

    -- the first entry that has the key
    put_first : (es : List (List ℕ × Entry V)) (i : ℕ) → position_or_len (bytes_eq key) (keys_of es) ≡ i → i < length es → put n (map held es) key v ≡ again_at n (map held es) i v
    put_first [] i p within = absurd (omega (arith, within))
    put_first (e ∷ es) zero p within = elim (cases_Bool (bytes_eq key e.0)) [
      | inl y ↦ ap (λ (b : Bool). if b then (e.0, last n (e.1.values.items ++ v ∷ [])) ∷ map held es else held e ∷ put n (map held es) key v) (turned_bytes e.0 key ∙ y)
      | inr m ↦ (let more : 1 + position_or_len (bytes_eq key) (keys_of es) ≡ 0 = sym (ap (λ (b : Bool). cond (not b) (1 + position_or_len (bytes_eq key) (keys_of es)) 0) m) ∙ p in absurd (omega (arith, more)))
    ]
    put_first (e ∷ es) (suc i) p within = elim (cases_Bool (bytes_eq key e.0)) [
      | inl y ↦ (let none : 0 ≡ suc i = sym (ap (λ (b : Bool). cond (not b) (1 + position_or_len (bytes_eq key) (keys_of es)) 0) y) ∙ p in absurd (omega (arith, none)))
      | inr m ↦ (let more : 1 + position_or_len (bytes_eq key) (keys_of es) ≡ suc i = sym (ap (λ (b : Bool). cond (not b) (1 + position_or_len (bytes_eq key) (keys_of es)) 0) m) ∙ p in
          ap (λ (b : Bool). if b then (e.0, last n (e.1.values.items ++ v ∷ [])) ∷ map held es else held e ∷ put n (map held es) key v) (turned_bytes e.0 key ∙ m)
          ∙ ap (λ (fs : InstancesOf V). held e ∷ fs) (put_first es i (omega (arith, more)) (omega (arith, within))))
    ]

    pub put_there : (es : List (List ℕ × Entry V)) (i : ℕ) → position (bytes_eq key) (keys_of es) ≡ Some i → put n (map held es) key v ≡ again_at n (map held es) i v
    put_there es i e = let there = Found-position (bytes_eq key) es i e in put_first es i there.or_len there.within

module _ {V : Type 0} (n : ℕ) (v : V) (x : Entry V) where
  -- another entry at a place
  pub set_again : (es : List (List ℕ × Entry V)) (i : ℕ) (k : List ℕ) (e : Entry V) → slice_get es i ≡ Some (k, e) → x.values.items ≡ last n (e.values.items ++ v ∷ [])
      → map held (set_value_at es i x) ≡ again_at n (map held es) i v
  set_again [] i k e there same = refl
  set_again (f ∷ es) zero k e there same =
      let at : f ≡ (k, e) = cc in
      ap (λ vs. (f.0, vs) ∷ map held es) (same ∙ ap (λ (p : List ℕ × Entry V). last n (p.1.values.items ++ v ∷ [])) (sym at))
  set_again (f ∷ es) (suc i) k e there same = ap (λ fs. held f ∷ fs) (set_again es i k e there same)

pub set_same : {V : Type 0} (x : Entry V) (es : List (List ℕ × Entry V)) (i : ℕ) (k : List ℕ) (e : Entry V) → slice_get es i ≡ Some (k, e) → x.values.items ≡ e.values.items → map held (set_value_at es i x) ≡ map held es
set_same x [] i k e there same = refl
set_same {V} x (f ∷ es) zero k e there same =
    let at : f ≡ (k, e) = cc in
    ap (λ vs. (f.0, vs) ∷ map held es) (same ∙ ap (λ (p : List ℕ × Entry V). p.1.values.items) (sym at))
set_same x (f ∷ es) (suc i) k e there same = ap (λ fs. held f ∷ fs) (set_same x es i k e there same)
