-- Worked words of command lines, by computation (this profile's own).
use Rattle.std.specs.Prelude.{◌≡◌, ℕ, true, false, [], ◌∷◌, Some, None, codes, refl}
use Rattle.hex.specs.Hex.{decode_pairs}
use Rattle.xt_shapes.specs.declared.leaves.Rep.TheVariants.{Xcdr1, Xcdr2}
use Rattle.xt_io.specs.declared.Kind.TheVariants.{Json}
use Rattle.xcdr_model.specs.Policies.{standard}
use Rattle.tool_words.specs.Words.{Form, plain, within, Reference, Command, judge, read, convert, show, wrap, form_of, in_record_form, told, settings, policy_behind, policy_word, policy_of, pair_words, convert_words, write_words, wrap_words, instances, instances_words, record_words, replay_words, make, make_words, compare, compare_words, serve, fetch, mirror, serve_words, fetch_words, mirror_words, net_command_by, net_command_of, command_by, command_of}

-- all that words unfold
unfoldable words_read : ℕ
unfolding in_record_form form_of told settings policy_behind policy_word policy_of pair_words convert_words write_words wrap_words instances_words record_words replay_words make_words compare_words serve_words fetch_words mirror_words net_command_by net_command_of command_by command_of decode_pairs
words_read = 0

-- ---- types

pub in_a_record : form_of (codes "0/geo::Pose") ≡ Some (within 0 (codes "geo::Pose"))
unfolding words_read
in_a_record = refl

pub leading_zero : form_of (codes "00/A") ≡ None
unfolding words_read
leading_zero = refl

pub one_colon : form_of (codes "geo:Pose") ≡ None
unfolding words_read
one_colon = refl

-- ---- policies

pub no_policy : policy_of [] ≡ Some standard
unfolding words_read
no_policy = refl

pub a_policy : policy_of (codes "allow,string-bounds" ∷ []) ≡ Some (record { coercion = true; ignore_string_bounds = false; ignore_sequence_bounds = true; ignore_member_names = false })
unfolding words_read
a_policy = refl

pub in_another_order : policy_of (codes "allow,any-names,string-bounds" ∷ []) ≡ None
unfolding words_read
in_another_order = refl

-- ---- commands

abbrev a_type : Reference
a_type = record { word = codes "A"; form = plain (codes "A") }

pub one_type_short : command_of (codes "read" ∷ codes "A" ∷ []) ≡ None
unfolding words_read
one_type_short = refl

pub reads : command_of (codes "read" ∷ codes "A" ∷ codes "A" ∷ codes "xcdr2" ∷ []) ≡ Some (read (record { reader = a_type; writer = a_type; rep = Xcdr2; policy = standard }))
unfolding words_read
reads = refl

pub converts : command_of (codes "convert" ∷ codes "A" ∷ codes "A" ∷ codes "xcdr1" ∷ codes "xcdr2" ∷ []) ≡ Some (convert (record { reader = a_type; writer = a_type; rep = Xcdr1; policy = standard }) Xcdr2)
unfolding words_read
converts = refl

pub wraps_json : command_of (codes "wrap" ∷ codes "json" ∷ []) ≡ Some (wrap Json)
unfolding words_read
wraps_json = refl

pub shows_nothing_more : command_of (codes "show" ∷ codes "A" ∷ []) ≡ None
unfolding words_read
shows_nothing_more = refl

pub keeps_the_last : command_of (codes "instances" ∷ codes "A" ∷ codes "A" ∷ codes "xcdr2" ∷ codes "1024" ∷ []) ≡ Some (instances (record { reader = a_type; writer = a_type; rep = Xcdr2; policy = standard }) 1024)
unfolding words_read
keeps_the_last = refl

pub keeps_none : command_of (codes "instances" ∷ codes "A" ∷ codes "A" ∷ codes "xcdr2" ∷ codes "0" ∷ []) ≡ None
unfolding words_read
keeps_none = refl

pub greatest_seed : command_of (codes "make" ∷ codes "18446744073709551615" ∷ codes "100000" ∷ []) ≡ Some (make 18446744073709551615 100000)
unfolding words_read
greatest_seed = refl

pub seed_too_large : command_of (codes "make" ∷ codes "18446744073709551616" ∷ codes "0" ∷ []) ≡ None
unfolding words_read
seed_too_large = refl

pub compares : command_of (codes "compare" ∷ codes "xcdr1" ∷ codes "disallow" ∷ []) ≡ Some (compare Xcdr1 (record { coercion = false; ignore_string_bounds = true; ignore_sequence_bounds = true; ignore_member_names = false }))
unfolding words_read
compares = refl

pub compares_so : command_of (codes "compare" ∷ codes "xcdr2" ∷ []) ≡ Some (compare Xcdr2 standard)
unfolding words_read
compares_so = refl

pub compares_no_types : command_of (codes "compare" ∷ codes "A" ∷ codes "A" ∷ codes "xcdr2" ∷ []) ≡ None
unfolding words_read
compares_no_types = refl

-- ---- commands over a net

pub serves : net_command_of (codes "serve" ∷ codes "here" ∷ codes "64" ∷ codes "1000000" ∷ []) ≡ Some (serve (codes "here") 64 1000000)
unfolding words_read
serves = refl

pub serves_none : net_command_of (codes "serve" ∷ codes "here" ∷ codes "2" ∷ codes "0" ∷ []) ≡ Some (serve (codes "here") 2 0)
unfolding words_read
serves_none = refl

pub no_workers : net_command_of (codes "serve" ∷ codes "here" ∷ codes "0" ∷ codes "1" ∷ []) ≡ None
unfolding words_read
no_workers = refl

pub too_many_workers : net_command_of (codes "serve" ∷ codes "here" ∷ codes "65" ∷ codes "1" ∷ []) ≡ None
unfolding words_read
too_many_workers = refl

-- digits of either case
pub fetches : net_command_of (codes "fetch" ∷ codes "here" ∷ codes "F1000102030405060708090a0B0C0d" ∷ []) ≡ Some (fetch (codes "here") (record { kind = 241; hash = 0 ∷ 1 ∷ 2 ∷ 3 ∷ 4 ∷ 5 ∷ 6 ∷ 7 ∷ 8 ∷ 9 ∷ 10 ∷ 11 ∷ 12 ∷ 13 ∷ [] }))
unfolding words_read
fetches = refl

pub no_kind : net_command_of (codes "fetch" ∷ codes "here" ∷ codes "f3000102030405060708090a0b0c0d" ∷ []) ≡ None
unfolding words_read
no_kind = refl

pub mirrors : net_command_of (codes "mirror" ∷ codes "here" ∷ []) ≡ Some (mirror (codes "here"))
unfolding words_read
mirrors = refl

pub no_address : net_command_of (codes "mirror" ∷ [] ∷ []) ≡ None
unfolding words_read
no_address = refl
