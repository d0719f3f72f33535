-- The words of a command line (this profile's own).
use Rattle.std.specs.Prelude.{ℕ, ◌+◌, ◌-◌, ◌*◌, Bool, true, false, not, ◌&&◌, ◌||◌, List, [], ◌∷◌, length, take, drop, position, Option, Some, None, nat_lt, nat_le, ◌==◌, if◌then◌else◌, codes}
use Rattle.std.specs.Option.{option_map, option_and_then}
use Rattle.std.specs.Str.{bytes_eq}
use Rattle.xt_io.specs.declared.Kind.{Kind}
use Rattle.xt_io.specs.declared.Kind.TheVariants.{Object, Sample, Idl, Json, Note}
use Rattle.xt_shapes.specs.declared.leaves.Rep.{Rep}
use Rattle.xt_shapes.specs.declared.leaves.Rep.TheVariants.{Xcdr1, Xcdr2}
use Rattle.type_trees.specs.declared.types.HashId.{HashId}
use Rattle.node_rules.specs.Names.{is_scoped}
use Rattle.xcdr_model.specs.declared.verdict.Policy.{Policy}
use Rattle.xcdr_model.specs.Policies.{standard}
use Rattle.type_trees.specs.Ids.{id_of_digits}

-- what follows a text at the front
abbrev pub behind : List ℕ → List ℕ → Option (List ℕ)
behind front text = if bytes_eq (take (length front) text) front then Some (drop (length front) text) else None

-- ---- numbers: decimal digits, of which only a 0 that stands alone is the first

abbrev pub is_digit : ℕ → Bool
is_digit octet = nat_le 48 octet && nat_le octet 57

-- what digits make of the number before them, where it is below the most
abbrev pub valued : ℕ → ℕ → List ℕ → Option ℕ
valued most n [] = if nat_lt n most then Some n else None
valued most n (octet ∷ octets) = if is_digit octet then valued most (10 * n + (octet - 48)) octets else None

-- there are digits, of which no leading zero is one
abbrev pub leads : List ℕ → Bool
leads [] = false
leads (o ∷ []) = true
leads (o ∷ p ∷ os) = not (o == 48)

abbrev pub number_below : ℕ → List ℕ → Option ℕ
number_below most octets = if leads octets then valued most 0 octets else None

-- a number of 64 bits
abbrev pub long_number : List ℕ → Option ℕ
long_number octets = number_below 18446744073709551616 octets

-- ---- references to types

-- How a word names a type: a name anywhere, a name in one record, or an identifier.
pub data Form : Type 0 where
  plain : List ℕ → Form
  within : ℕ → List ℕ → Form
  by_id : HashId → Form

-- a word, and how it names a type
pub record Reference : Type 0 where
  pub word : List ℕ
  pub form : Form

abbrev pub name_form : (List ℕ → Form) → List ℕ → Option Form
name_form form name = if is_scoped name then Some (form name) else None

-- `K/NAME`, cut at the first `/`
unfoldable pub in_record_form : List ℕ → Option Form
in_record_form text = option_and_then (λ i. option_and_then (λ k. name_form (within k) (drop (i + 1) text)) (number_below 1048576 (take i text))) (position (λ octet. octet == 47) text)

unfoldable pub form_of : List ℕ → Option Form
form_of [] = None
form_of (octet ∷ octets) =
    if octet == 35 then option_map by_id (id_of_digits octets)
    else if is_scoped (octet ∷ octets) then Some (plain (octet ∷ octets))
    else in_record_form (octet ∷ octets)

abbrev pub reference : List ℕ → Option Reference
reference word = option_map (λ form. record { word = word; form = form }) (form_of word)

-- ---- representations, kinds and policies

abbrev pub rep_of : List ℕ → Option Rep
rep_of word = if bytes_eq word (codes "xcdr1") then Some Xcdr1 else if bytes_eq word (codes "xcdr2") then Some Xcdr2 else None

abbrev pub kind_word : List ℕ → Option Kind
kind_word word =
    if bytes_eq word (codes "object") then Some Object
    else if bytes_eq word (codes "sample") then Some Sample
    else if bytes_eq word (codes "idl") then Some Idl
    else if bytes_eq word (codes "json") then Some Json
    else None

-- whether a text begins so, and what follows
abbrev pub or_all : List ℕ → Option (List ℕ) → Bool × List ℕ
or_all text None = (false, text)
or_all text (Some rest) = (true, rest)

unfoldable pub told : List ℕ → List ℕ → Bool × List ℕ
told front text = or_all text (behind front text)

-- the policy of these settings, where nothing follows them
abbrev pub settings_end : Bool → Bool → Bool → Bool × List ℕ → Option Policy
settings_end coercion strings sequences names =
    if length names.1 == 0 then Some (record { coercion = coercion; ignore_string_bounds = not strings; ignore_sequence_bounds = not sequences; ignore_member_names = names.0 }) else None

unfoldable pub settings : Bool → List ℕ → Option Policy
settings coercion text =
    let strings = told (codes ",string-bounds") text in
    let sequences = told (codes ",sequence-bounds") strings.1 in
    settings_end coercion strings.0 sequences.0 (told (codes ",any-names") sequences.1)

unfoldable pub policy_behind : Bool × List ℕ → Bool × List ℕ → Option Policy
policy_behind allow disallow = if allow.0 then settings true allow.1 else if disallow.0 then settings false disallow.1 else None

unfoldable pub policy_word : List ℕ → Option Policy
policy_word word = policy_behind (told (codes "allow") word) (told (codes "disallow") word)

unfoldable pub policy_of : List (List ℕ) → Option Policy
policy_of [] = Some standard
policy_of (word ∷ []) = policy_word word
policy_of words = None

-- ---- commands

-- a reader's type and a writer's, and under which representation and policy they are judged
pub record Pair : Type 0 where
  pub reader : Reference
  pub writer : Reference
  pub rep : Rep
  pub policy : Policy

pub data Command : Type 0 where
  compile : Command
  judge : Pair → Command
  read : Pair → Command
  write : Reference → Rep → Command
  convert : Pair → Rep → Command
  show : Command
  wrap : Kind → Command
  instances : Pair → ℕ → Command
  keep : Reference → Rep → Command
  replay : Reference → Command
  make : ℕ → ℕ → Command
  compare : Rep → Policy → Command

-- a part of a command's words, and what it makes of the rest
abbrev pub with : {A B : Type 0} → Option A → (A → Option B) → Option B
with part more = option_and_then more part

abbrev pub pair_of : List ℕ → List ℕ → List ℕ → List (List ℕ) → Option Pair
pair_of r w rep rest = with (reference r) (λ reader. with (reference w) (λ writer. with (rep_of rep) (λ p. option_map (λ policy. record { reader = reader; writer = writer; rep = p; policy = policy }) (policy_of rest))))

unfoldable pub pair_words : List (List ℕ) → Option Pair
pair_words (r ∷ w ∷ rep ∷ rest) = pair_of r w rep rest
pair_words words = None

unfoldable pub convert_words : List (List ℕ) → Option Command
convert_words (r ∷ w ∷ rep ∷ to ∷ rest) = with (rep_of to) (λ p. option_map (λ pair. convert pair p) (pair_of r w rep rest))
convert_words words = None

unfoldable pub write_words : List (List ℕ) → Option Command
write_words (t ∷ rep ∷ []) = with (reference t) (λ r. option_map (write r) (rep_of rep))
write_words words = None

unfoldable pub wrap_words : List (List ℕ) → Option Command
wrap_words (kind ∷ []) = option_map wrap (kind_word kind)
wrap_words words = None

-- a number below the most that is not 0
abbrev pub count_below : ℕ → List ℕ → Option ℕ
count_below most word = with (number_below most word) (λ n. if n == 0 then None else Some n)

-- how many values are kept of each key: 1 to 1,024
abbrev pub depth_of : List ℕ → Option ℕ
depth_of word = count_below 1025 word

-- the standard's own policy
unfoldable pub instances_words : List (List ℕ) → Option Command
instances_words (r ∷ w ∷ rep ∷ depth ∷ []) = with (pair_of r w rep []) (λ pair. option_map (instances pair) (depth_of depth))
instances_words words = None

unfoldable pub record_words : List (List ℕ) → Option Command
record_words (w ∷ rep ∷ []) = with (reference w) (λ r. option_map (keep r) (rep_of rep))
record_words words = None

unfoldable pub replay_words : List (List ℕ) → Option Command
replay_words (r ∷ []) = option_map replay (reference r)
replay_words words = None

-- a seed of 64 bits, and at most 100,000 pairs
unfoldable pub make_words : List (List ℕ) → Option Command
make_words (seed ∷ count ∷ []) = with (long_number seed) (λ s. option_map (make s) (number_below 100001 count))
make_words words = None

-- under which representation and policy versions are compared
unfoldable pub compare_words : List (List ℕ) → Option Command
compare_words (rep ∷ rest) = with (rep_of rep) (λ p. option_map (compare p) (policy_of rest))
compare_words words = None

abbrev pub alone : Command → List (List ℕ) → Option Command
alone command words = if length words == 0 then Some command else None

unfoldable pub command_by : List ℕ → List (List ℕ) → Option Command
command_by name words =
    if bytes_eq name (codes "compile") then alone compile words
    else if bytes_eq name (codes "judge") then option_map judge (pair_words words)
    else if bytes_eq name (codes "read") then option_map read (pair_words words)
    else if bytes_eq name (codes "write") then write_words words
    else if bytes_eq name (codes "convert") then convert_words words
    else if bytes_eq name (codes "show") then alone show words
    else if bytes_eq name (codes "wrap") then wrap_words words
    else if bytes_eq name (codes "instances") then instances_words words
    else if bytes_eq name (codes "record") then record_words words
    else if bytes_eq name (codes "replay") then replay_words words
    else if bytes_eq name (codes "make") then make_words words
    else if bytes_eq name (codes "compare") then compare_words words
    else None

-- what the words ask
unfoldable pub command_of : List (List ℕ) → Option Command
command_of [] = None
command_of (name ∷ words) = command_by name words

-- ---- commands over a net

-- What is asked of peers, or what they may ask, at an address: objects are served by so many workers, so many links each; an object is
-- fetched; objects are pushed.
pub data NetCommand : Type 0 where
  serve : List ℕ → ℕ → ℕ → NetCommand
  fetch : List ℕ → HashId → NetCommand
  mirror : List ℕ → NetCommand

-- 1 to 255 octets, whatever they are
abbrev pub address_of : List ℕ → Option (List ℕ)
address_of word = if nat_lt 0 (length word) && nat_lt (length word) 256 then Some word else None

-- 1 to 64 workers, and 0 to 1,000,000 links for each
unfoldable pub serve_words : List (List ℕ) → Option NetCommand
serve_words (to ∷ workers ∷ turns ∷ []) = with (address_of to) (λ a. with (count_below 65 workers) (λ w. option_map (serve a w) (number_below 1000001 turns)))
serve_words words = None

unfoldable pub fetch_words : List (List ℕ) → Option NetCommand
fetch_words (to ∷ id ∷ []) = with (address_of to) (λ a. option_map (fetch a) (id_of_digits id))
fetch_words words = None

unfoldable pub mirror_words : List (List ℕ) → Option NetCommand
mirror_words (to ∷ []) = option_map mirror (address_of to)
mirror_words words = None

unfoldable pub net_command_by : List ℕ → List (List ℕ) → Option NetCommand
net_command_by name words =
    if bytes_eq name (codes "serve") then serve_words words
    else if bytes_eq name (codes "fetch") then fetch_words words
    else if bytes_eq name (codes "mirror") then mirror_words words
    else None

-- what the words ask over a net
unfoldable pub net_command_of : List (List ℕ) → Option NetCommand
net_command_of [] = None
net_command_of (name ∷ words) = net_command_by name words
