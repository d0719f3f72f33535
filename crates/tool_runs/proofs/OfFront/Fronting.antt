-- Reading a front, record after record.
use Rattle.std.proofs.Common.{◌≡◌, ℕ, ◌+◌, ◌<◌, ◌≤◌, List, [], ◌∷◌, ◌++◌, Bool, true, false, length, take, None, Some, Result, Ok, Err, refl, sym, ap, ◌∙◌, subst, append_assoc, append-nil, if◌then◌else◌, nat_lt, codes}
use Rattle.std.proofs.lemmas.Bool.{le-ltb, lt-ltb}
use Rattle.std.specs.declared.option.Option.{Option}
use Rattle.xt_io.specs.declared.Head.{Head}
use Rattle.xt_io.specs.declared.Item.{Item}
use Rattle.xt_io.specs.declared.RecordFault.{RecordFault}
use Rattle.xt_io.specs.declared.RecordFault.TheVariants.{Truncated}
use Rattle.xt_io.specs.Bundles.{Bundle, limit_of, nothing, only_fault, cut, with_payload, before_bundle, item_of}
use Rattle.xt_io.specs.Outside.{KeepsTold}
use Rattle.xt_io.specs.Readers.{Reading}
use Rattle.tool_runs.specs.declared.output.stop.Stop.{Stop}
use Rattle.tool_runs.specs.declared.output.stop.Stop.TheVariants as stops
use Rattle.tool_runs.specs.declared.output.stop.Refused.{Refused}
use Rattle.tool_runs.specs.output.Texts.{bundle_text}
use Rattle.tool_runs.specs.output.Outputs.{Refusal, ◌>>=◌, broken, bundle_refusal}
use Rattle.tool_runs.specs.output.Runs.{TakesRecord, TakesPayload, Cuts, Refuses, coming, refusal, both}
use Rattle.tool_runs.specs.front.Fronts.{Front, front_of, front_from, is_front, begins_body, with_record, no_front, if_within, most_octets}
use Rattle.tool_runs.specs.declared.front.front.Front.{Front as Read}
use Rattle.tool_runs.specs.front.Reading.{AreWithin, FrontIs, GivesFront}

-- records that were read before a front
abbrev pub after_records : List Item → Result Front Refusal → Result Front Refusal
after_records records (Ok front) = Ok (record { records = records ++ front.records; body = front.body })
after_records records (Err refusal) = Err refusal

-- The front is the records that were read, and then the front of what is still to come.
abbrev pub Progress : Option Bundle → List Item → ℕ → Option Bundle → Type 0
Progress None records total now = Unit {0}
Progress (Some first) records total None = ⊥
Progress (Some first) records total (Some now) = front_of 0 first ≡ after_records records (front_of total now)

nothing_before : (r : Result Front Refusal) → r ≡ after_records [] r
nothing_before (Ok front) = refl
nothing_before (Err refusal) = refl

pub begins : (first : Option Bundle) → Progress first [] 0 first
begins None = tt
begins (Some first) = nothing_before (front_of 0 first)

pub told_on : (first now next : Option Bundle) (records : List Item) (total : ℕ) → Progress first records total now → KeepsTold now next → Progress first records total next
told_on None now next records total p k = tt
told_on (Some first) None next records total p k = absurd p
told_on (Some first) (Some now) next records total p k = subst (λ (o : Option Bundle). Progress (Some first) records total o) (sym k) p

one_more : (records : List Item) (item : Item) (r : Result Front Refusal) → after_records records (r >>= λ front. Ok (with_record item front)) ≡ after_records (records ++ item ∷ []) r
one_more records item (Ok front) = ap (λ (l : List Item). let made : Result Front Refusal = Ok (record { records = l; body = front.body }) in made) (sym (append_assoc records (item ∷ []) front.records))
one_more records item (Err refusal) = refl

front_taken : (total : ℕ) (item : Item) (more : Bundle) → is_front item.kind ≡ true → total + length item.payload ≤ most_octets → front_of total (before_bundle item more) ≡ (front_of (total + length item.payload) more >>= λ front. Ok (with_record item front))
unfolding front_from
front_taken total item more is within =
    ap (λ (b : Bool). if b then if_within (total + length item.payload) item (front_of (total + length item.payload) more) else Ok (no_front (before_bundle item more))) is
    ∙ ap (λ (b : Bool). if b then Err (bundle_refusal (bundle_text item.at (codes "too-long"))) else (front_of (total + length item.payload) more >>= λ front. Ok (with_record item front))) (le-ltb most_octets (total + length item.payload) within)

front_too_long : (total : ℕ) (item : Item) (more : Bundle) → is_front item.kind ≡ true → most_octets < total + length item.payload → front_of total (before_bundle item more) ≡ Err (bundle_refusal (bundle_text item.at (codes "too-long")))
unfolding front_from
front_too_long total item more is over =
    ap (λ (b : Bool). if b then if_within (total + length item.payload) item (front_of (total + length item.payload) more) else Ok (no_front (before_bundle item more))) is
    ∙ ap (λ (b : Bool). if b then Err (bundle_refusal (bundle_text item.at (codes "too-long"))) else (front_of (total + length item.payload) more >>= λ front. Ok (with_record item front))) (lt-ltb most_octets (total + length item.payload) over)

-- one more record
pub goes_on : (first now after : Option Bundle) (records : List Item) (total : ℕ) (head : Head) (t : List ℕ) → Progress first records total now → TakesRecord head (λ octets. octets ≡ t) now after → is_front head.kind ≡ true → total + length t ≤ most_octets
    → Progress first (records ++ record { kind = head.kind; at = head.at; payload = t } ∷ []) (total + length t) after
goes_on None now after records total head t p q is within = tt
goes_on (Some first) None after records total head t p q is within = absurd p
goes_on (Some first) (Some now) None records total head t p q is within = absurd q
goes_on (Some first) (Some now) (Some after) records total head t p q is within =
    let (octets, front, same) = q in
    let there : now ≡ before_bundle (item_of head t) after = front ∙ ap (λ (l : List ℕ). before_bundle (item_of head l) after) same in
    p ∙ ap (λ (b : Bundle). after_records records (front_of total b)) there ∙ ap (after_records records) (front_taken total (item_of head t) after is within) ∙ one_more records (item_of head t) (front_of (total + length t) after)

-- ---- refusals

abbrev RefusedBy : Option Bundle → Refusal → Type 0
RefusedBy None said = Unit {0}
RefusedBy (Some first) said = front_of 0 first ≡ Err said

-- the record passes the sum
pub too_long : (first now after : Option Bundle) (records : List Item) (total : ℕ) (head : Head) (t : List ℕ) → Progress first records total now → TakesRecord head (λ octets. octets ≡ t) now after → is_front head.kind ≡ true → most_octets < total + length t
    → RefusedBy first (bundle_refusal (bundle_text head.at (codes "too-long")))
too_long None now after records total head t p q is over = tt
too_long (Some first) None after records total head t p q is over = absurd p
too_long (Some first) (Some now) None records total head t p q is over = absurd q
too_long (Some first) (Some now) (Some after) records total head t p q is over =
    let (octets, front, same) = q in
    let there : now ≡ before_bundle (item_of head t) after = front ∙ ap (λ (l : List ℕ). before_bundle (item_of head l) after) same in
    p ∙ ap (λ (b : Bundle). after_records records (front_of total b)) there ∙ ap (after_records records) (front_too_long total (item_of head t) after is over)

front_broken : (total : ℕ) (fault : RecordFault) → begins_body fault ≡ false → front_of total (only_fault fault) ≡ Err (broken fault)
unfolding front_from
front_broken total fault isnt = ap (λ (b : Bool). if b then Ok (no_front (only_fault fault)) else Err (broken fault)) isnt

front_begins : (total : ℕ) (fault : RecordFault) → begins_body fault ≡ true → front_of total (only_fault fault) ≡ Ok (no_front (only_fault fault))
unfolding front_from
front_begins total fault does = ap (λ (b : Bool). if b then Ok (no_front (only_fault fault)) else Err (broken fault)) does

-- a fault in a record's place that doesn't begin the body
pub is_broken : (first : Option Bundle) (records : List Item) (total : ℕ) (fault : RecordFault) → Progress first records total (Some (only_fault fault)) → begins_body fault ≡ false → RefusedBy first (broken fault)
is_broken None records total fault p isnt = tt
is_broken (Some first) records total fault p isnt = p ∙ ap (after_records records) (front_broken total fault isnt)

-- a record of the front that is cut
pub is_cut : (first now : Option Bundle) (records : List Item) (total : ℕ) (head : Head) (r : Refused) → Progress first records total now → Cuts head now r → is_front head.kind ≡ true → RefusedBy first (refusal r)
is_cut None now records total head r p q is = tt
is_cut (Some first) None records total head r p q is = absurd p
is_cut (Some first) (Some now) records total head r p q is =
    let none : begins_body (Truncated head.at head.kind) ≡ false = ap (λ (b : Bool). if b then false else true) is in
    p ∙ ap (λ (b : Bundle). after_records records (front_of total b)) q.0 ∙ ap (after_records records) (front_broken total (Truncated head.at head.kind) none) ∙ ap (λ (said : Refusal). Err said) (sym q.1)

-- ---- the body

abbrev Ends : Option Bundle → List Item → Option Bundle → Type 0
Ends None records body = Unit {0}
Ends (Some first) records body = GivesFront first records body

body_here : (first : Bundle) (records : List Item) (total : ℕ) (body : Bundle) → front_of 0 first ≡ after_records records (front_of total body) → front_of total body ≡ Ok (no_front body) → GivesFront first records (Some body)
body_here first records total body p q = p ∙ ap (after_records records) q ∙ ap (λ (l : List Item). let made : Result Front Refusal = Ok (record { records = l; body = body }) in made) (append-nil records)

-- the end of the input
pub ends_whole : (first : Option Bundle) (records : List Item) (total : ℕ) → Progress first records total (Some nothing) → Ends first records (Some nothing)
unfolding front_from
ends_whole None records total p = tt
ends_whole (Some first) records total p = body_here first records total nothing p refl

-- a fault that begins the body
pub ends_broken : (first : Option Bundle) (records : List Item) (total : ℕ) (fault : RecordFault) → Progress first records total (Some (only_fault fault)) → begins_body fault ≡ true → Ends first records (Some (only_fault fault))
ends_broken None records total fault p does = tt
ends_broken (Some first) records total fault p does = body_here first records total (only_fault fault) p (front_begins total fault does)

front_other : (total : ℕ) (item : Item) (more : Bundle) → is_front item.kind ≡ false → front_of total (before_bundle item more) ≡ Ok (no_front (before_bundle item more))
unfolding front_from
front_other total item more isnt = ap (λ (b : Bool). if b then if_within (total + length item.payload) item (front_of (total + length item.payload) more) else Ok (no_front (before_bundle item more))) isnt

by_length : (total : ℕ) (head : Head) (octets : List ℕ) (after : Bundle) (short : Bool) → is_front head.kind ≡ false
    → front_of total (if short then cut head else before_bundle (item_of head (take head.length octets)) after) ≡ Ok (no_front (if short then cut head else before_bundle (item_of head (take head.length octets)) after))
by_length total head octets after true isnt = front_begins total (Truncated head.at head.kind) (ap (λ (b : Bool). if b then false else true) isnt)
by_length total head octets after false isnt = front_other total (item_of head (take head.length octets)) after isnt

front_head : (total : ℕ) (head : Head) (octets : List ℕ) (after : Bundle) → is_front head.kind ≡ false → front_of total (with_payload head octets after) ≡ Ok (no_front (with_payload head octets after))
unfolding with_payload
front_head total head octets after isnt = by_length total head octets after (nat_lt (length octets) head.length) isnt

-- a record of another kind, whole or cut
pub ends_head : (first : Option Bundle) (records : List Item) (total : ℕ) (head : Head) (o : Option (List ℕ)) (behind : Option Bundle) → Progress first records total (both (with_payload head) o behind) → is_front head.kind ≡ false → Ends first records (both (with_payload head) o behind)
ends_head None records total head o behind p isnt = tt
ends_head (Some first) records total head None behind p isnt = absurd p
ends_head (Some first) records total head (Some octets) None p isnt = absurd p
ends_head (Some first) records total head (Some octets) (Some after) p isnt = body_here first records total (with_payload head octets after) p (front_head total head octets after isnt)

-- ---- what is answered

pub front_ends : (first : Option Bundle) (read : Read) (reader : Reading) → Ends first read.records (coming read.next reader) → FrontIs first (Ok read) reader
front_ends None read reader p = tt
front_ends (Some first) read reader p = p

pub front_refused : (first : Option Bundle) (said : Refusal) (stop : Stop) (reader : Reading) → RefusedBy first said → Refuses said stop → FrontIs first (Err stop) reader
front_refused None said stop reader p q = tt
front_refused (Some first) said (stops.Refused r) reader p q = p ∙ ap (λ (x : Refusal). Err x) (sym q)
front_refused (Some first) said (stops.Halted halt) reader p q = tt

-- a record of the front that could not be read
pub front_cut : (first now after : Option Bundle) (records : List Item) (total : ℕ) (head : Head) (stop : Stop) (reader : Reading) → Progress first records total now → TakesPayload {T = List ℕ} head (λ t octets. octets ≡ t) now after (Err stop) → is_front head.kind ≡ true → FrontIs first (Err stop) reader
front_cut None now after records total head stop reader p q is = tt
front_cut (Some first) now after records total head (stops.Refused r) reader p q is = is_cut (Some first) now records total head r p q is
front_cut (Some first) now after records total head (stops.Halted halt) reader p q is = tt

-- one more record within its limit
pub within_on : (items : List Item) (item : Item) → AreWithin items → length item.payload ≤ limit_of item.kind → AreWithin (items ++ item ∷ [])
within_on [] item all fits = (fits, tt)
within_on (x ∷ items) item all fits = (all.0, within_on items item all.1 fits)
