-- What is kept, where each value stands for another: puts, keys and places are the same.
use Rattle.std.proofs.Common.{◌≡◌, ℕ, ◌-◌, Bool, true, false, List, [], ◌∷◌, ◌++◌, map, length, drop, nat_le, slice_get, Option, Some, None, refl, sym, ap, ap₂, ◌∙◌, if◌then◌else◌}
use Rattle.std.proofs.lemmas.List.{drop-map, length-map, map_push}
use Rattle.std.proofs.lemmas.Option.{slice_get-map}
use Rattle.std.specs.Option.{option_map, option_and_then}
use Rattle.std.specs.Str.{bytes_eq}
use Rattle.key_instances.specs.kept.Kept.{InstancesOf, last, put, has_key, is_full}
use Rattle.key_instances.specs.Caches.{entry_as, entries_as, key_of, count_of, value_of}

module _ {V W : Type 0} (f : V → W) where
  pub last_shown : (n : ℕ) (vs : List V) → map f (last n vs) ≡ last n (map f vs)
  last_shown n vs = sym (drop-map f (length vs - n) vs) ∙ ap (λ k. drop (k - n) (map f vs)) (sym (length-map vs f))

  -- one more of a key
  again_shown : (n : ℕ) (e : List ℕ × List V) (v : V) → entry_as f (e.0, last n (e.1 ++ v ∷ [])) ≡ (e.0, last n (map f e.1 ++ f v ∷ []))
  again_shown n e v = ap (λ vs. (e.0, vs)) (last_shown n (e.1 ++ v ∷ []) ∙ ap (last n) (map_push f e.1 v))

  pub put_shown : (n : ℕ) (es : InstancesOf V) (key : List ℕ) (v : V) → entries_as f (put n es key v) ≡ put n (entries_as f es) key (f v)
  put_shown n [] key v = refl
  put_shown n (e ∷ es) key v = by (bytes_eq e.0 key) (put_shown n es key v)
    where
      by : (b : Bool) → entries_as f (put n es key v) ≡ put n (entries_as f es) key (f v)
          → entries_as f (if b then (e.0, last n (e.1 ++ v ∷ [])) ∷ es else e ∷ put n es key v) ≡ (if b then (e.0, last n (map f e.1 ++ f v ∷ [])) ∷ entries_as f es else entry_as f e ∷ put n (entries_as f es) key (f v))
      by true more = ap (λ (x : List ℕ × List W). x ∷ entries_as f es) (again_shown n e v)
      by false more = ap (λ (xs : InstancesOf W). entry_as f e ∷ xs) more

  pub has_key_shown : (key : List ℕ) (es : InstancesOf V) → has_key key (entries_as f es) ≡ has_key key es
  has_key_shown key [] = refl
  has_key_shown key (e ∷ es) = ap (λ (b : Bool). if bytes_eq e.0 key then true else b) (has_key_shown key es)

  pub length_shown : (es : InstancesOf V) → length (entries_as f es) ≡ length es
  length_shown es = length-map es (entry_as f)

  pub is_full_shown : (most : ℕ) (es : InstancesOf V) (key : List ℕ) → is_full most (entries_as f es) key ≡ is_full most es key
  is_full_shown most es key = ap₂ (λ (b : Bool) (n : ℕ). if b then false else nat_le most n) (has_key_shown key es) (length_shown es)

  -- ---- what stands at a place

  pub entry_shown : (es : InstancesOf V) (i : ℕ) → slice_get (entries_as f es) i ≡ option_map (entry_as f) (slice_get es i)
  entry_shown es i = slice_get-map (entry_as f) es i

  pub key_of_shown : (es : InstancesOf V) (i : ℕ) → key_of (entries_as f es) i ≡ key_of es i
  key_of_shown es i = ap (option_map (λ (x : List ℕ × List W). x.0)) (entry_shown es i) ∙ by (slice_get es i)
    where
      by : (o : Option (List ℕ × List V)) → option_map (λ (x : List ℕ × List W). x.0) (option_map (entry_as f) o) ≡ option_map (λ (x : List ℕ × List V). x.0) o
      by None = refl
      by (Some e) = refl

  pub count_of_shown : (es : InstancesOf V) (i : ℕ) → count_of (entries_as f es) i ≡ count_of es i
  count_of_shown es i = ap (option_map (λ (x : List ℕ × List W). length x.1)) (entry_shown es i) ∙ by (slice_get es i)
    where
      by : (o : Option (List ℕ × List V)) → option_map (λ (x : List ℕ × List W). length x.1) (option_map (entry_as f) o) ≡ option_map (λ (x : List ℕ × List V). length x.1) o
      by None = refl
      by (Some e) = ap Some (length-map e.1 f)

  pub value_of_shown : (es : InstancesOf V) (i j : ℕ) → value_of (entries_as f es) i j ≡ option_map f (value_of es i j)
  value_of_shown es i j = ap (option_and_then (λ (x : List ℕ × List W). slice_get x.1 j)) (entry_shown es i) ∙ by (slice_get es i)
    where
      by : (o : Option (List ℕ × List V)) → option_and_then (λ (x : List ℕ × List W). slice_get x.1 j) (option_map (entry_as f) o) ≡ option_map f (option_and_then (λ (x : List ℕ × List V). slice_get x.1 j) o)
      by None = refl
      by (Some e) = slice_get-map f e.1 j
