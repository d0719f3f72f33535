-- One put after another keeps the last values.
use Rattle.std.proofs.Common.{◌≡◌, refl, sym, ap, ◌∙◌, ℕ, ◌≤◌, Bool, true, false, not, ◌||◌, List, [], ◌∷◌, ◌++◌, map, inl, inr, if◌then◌else◌, append-nil, append_assoc, ap₂}
use Rattle.std.proofs.lemmas.Bool.{cases_Bool, and_parts, or_parts, not-true, both_ways}
use Rattle.std.proofs.lemmas.List.{map-append}
use Rattle.std.specs.Str.{bytes_eq}
use Rattle.key_instances.specs.kept.Kept.{PutsOf, InstancesOf, last, is_among, keys_of, values_of, kept, put, all_put}
use Rattle.key_instances.specs.kept.Laws.{KeepsLast}
use Rattle.key_instances.proofs.OfKept.Keys.{same_bytes, own_bytes, turned_bytes, apart, keys_apart, keys_more, values_more, none_of}
use Rattle.key_instances.proofs.OfKept.Lasts.{last_more, last_one}

module _ {V : Type 0} (n : ℕ) (ps : PutsOf V) (key : List ℕ) (v : V) where
  -- what is kept of a key before and after a put
  abbrev before : List ℕ → List ℕ × List V
  before k = (k, last n (values_of k ps))

  abbrev after : List ℕ → List ℕ × List V
  after k = (k, last n (values_of k (ps ++ (key, v) ∷ [])))

  other_stays : (k : List ℕ) → bytes_eq key k ≡ false → before k ≡ after k
  other_stays k e = ap (λ vs. (k, last n vs)) (sym (values_more ps key k v ∙ ap (λ (c : Bool). values_of k ps ++ (if c then v ∷ [] else [])) e ∙ append-nil (values_of k ps)))

  own_values : values_of key (ps ++ (key, v) ∷ []) ≡ values_of key ps ++ v ∷ []
  own_values = values_more ps key key v ∙ ap (λ (c : Bool). values_of key ps ++ (if c then v ∷ [] else [])) (own_bytes key)

  turned : (k : List ℕ) → bytes_eq k key ≡ false → bytes_eq key k ≡ false
  turned k e = turned_bytes key k ∙ e

  -- where the key is none of them, nothing of them changes
  all_stay : (ks : List (List ℕ)) → is_among key ks ≡ false → map before ks ≡ map after ks
  all_stay [] e = refl
  all_stay (k ∷ ks) e =
      let parts = or_parts (bytes_eq k key) (is_among key ks) e in
      ap₂ (λ (e : List ℕ × List V) (es : InstancesOf V). e ∷ es) (other_stays k (turned k parts.0)) (all_stay ks parts.1)

  put_last : (ks : List (List ℕ)) → is_among key ks ≡ false → put n (map before ks) key v ≡ map before ks ++ (key, v ∷ []) ∷ []
  put_last [] e = refl
  put_last (k ∷ ks) e =
      let parts = or_parts (bytes_eq k key) (is_among key ks) e in
      ap (λ (c : Bool). if c then (k, last n (last n (values_of k ps) ++ v ∷ [])) ∷ map before ks else before k ∷ put n (map before ks) key v) parts.0 ∙ ap (λ es. before k ∷ es) (put_last ks parts.1)

  put_again : (ks : List (List ℕ)) → apart ks ≡ true → is_among key ks ≡ true → put n (map before ks) key v ≡ map after ks
  put_again [] d e = absurd (both_ways false refl e)
  put_again (k ∷ ks) d e =
      let ds = and_parts (not (is_among k ks)) (apart ks) d in
      elim (cases_Bool (bytes_eq k key)) [
        | inl y ↦ (let same = same_bytes k key y in
            let rest = all_stay ks (ap (λ (o : List ℕ). is_among o ks) (sym same) ∙ not-true (is_among k ks) ds.0) in
            let own : last n (last n (values_of k ps) ++ v ∷ []) ≡ last n (values_of k (ps ++ (key, v) ∷ [])) =
            ap (λ (o : List ℕ). last n (last n (values_of o ps) ++ v ∷ [])) same ∙ last_more n (values_of key ps) v ∙ ap (last n) (sym own_values) ∙ ap (λ (o : List ℕ). last n (values_of o (ps ++ (key, v) ∷ []))) (sym same) in
            ap (λ (c : Bool). if c then (k, last n (last n (values_of k ps) ++ v ∷ [])) ∷ map before ks else before k ∷ put n (map before ks) key v) y ∙ ap₂ (λ (vs : List V) (es : InstancesOf V). (k, vs) ∷ es) own rest)
        | inr m ↦ (let one = other_stays k (turned k m) in
            let more = put_again ks ds.1 (sym (ap (λ (c : Bool). c || is_among key ks) m) ∙ e) in
            ap (λ (c : Bool). if c then (k, last n (last n (values_of k ps) ++ v ∷ [])) ∷ map before ks else before k ∷ put n (map before ks) key v) m ∙ ap₂ (λ (e : List ℕ × List V) (es : InstancesOf V). e ∷ es) one more)
      ]

  -- one put more
  put_step : 1 ≤ n → put n (kept n ps) key v ≡ kept n (ps ++ (key, v) ∷ [])
  put_step one =
      let ks = keys_of [] ps in
      elim (cases_Bool (is_among key ks)) [
        | inl y ↦ put_again ks (keys_apart [] ps) y ∙ ap (map after) (sym (keys_more [] ps key v ∙ ap (λ (c : Bool). if c then ks else ks ++ key ∷ []) y))
        | inr m ↦ (let new : (key, v ∷ []) ≡ after key = ap (λ vs. (key, vs)) (sym (last_one n v one) ∙ ap (λ vs. last n (vs ++ v ∷ [])) (sym (none_of [] ps key refl m)) ∙ ap (last n) (sym own_values)) in
            put_last ks m ∙ ap₂ (λ (es : InstancesOf V) (e : List ℕ × List V). es ++ e ∷ []) (all_stay ks m) new ∙ sym (map-append after ks (key ∷ []))
            ∙ ap (map after) (sym (keys_more [] ps key v ∙ ap (λ (c : Bool). if c then ks else ks ++ key ∷ []) m)))
      ]

all_from : {V : Type 0} (n : ℕ) (ps qs : PutsOf V) → 1 ≤ n → all_put n (kept n ps) qs ≡ kept n (ps ++ qs)
all_from n ps [] one = ap (kept n) (sym (append-nil ps))
all_from n ps (q ∷ qs) one = ap (λ es. all_put n es qs) (put_step n ps q.0 q.1 one) ∙ all_from n (ps ++ (q.0, q.1) ∷ []) qs one ∙ ap (kept n) (append_assoc ps (q ∷ []) qs)

-- this holds of any kind of values
pub all_kept : {V : Type 0} (n : ℕ) (puts : PutsOf V) → 1 ≤ n → all_put n [] puts ≡ kept n puts
all_kept n puts one = all_from n [] puts one

pub keeps_last : KeepsLast
keeps_last n puts one = all_kept n puts one
