-- What the words and the octets of the input come to (this profile's own).
use Rattle.std.specs.Prelude.{ℕ, List, Option, Some, None, codes}
use Rattle.xt_io.specs.Bundles.{bundle}
use Rattle.tool_runs.specs.declared.output.ending.Cause.TheVariants.{Words as BadWords}
use Rattle.tool_runs.specs.declared.output.ending.Style.{Style}
use Rattle.tool_runs.specs.declared.output.ending.Style.TheVariants.{Lines, Records}
use Rattle.tool_runs.specs.output.Outputs.{Output, refused}
use Rattle.tool_runs.specs.Commands.{answer_to, command_output, body_behind, ends_behind}
use Rattle.tool_words.specs.Words.{Command, compile, judge, read, write, convert, show, wrap, instances, keep, replay, make, compare, command_of}
use Rattle.tool_commands.specs.Commands.{judge_lines, read_lines, convert_records, write_records, instances_lines, record_records, replay_lines}
use Rattle.tool_verdicts.specs.Versions.{compare_output}
use Rattle.tool_commands.specs.Making.{made}
use Rattle.tool_commands.specs.Wrapping.{wrapped}
use Rattle.tool_commands.specs.listing.Listing.{compile_records, show_lines}

-- ---- words

abbrev pub bad_words : Output
bad_words = refused Lines (record { text = codes "words"; cause = BadWords })

-- ---- commands

abbrev pub of_command : Command → List ℕ → Output
of_command compile octets = command_output Records (ends_behind (answer_to compile_records)) (bundle octets)
of_command (judge pair) octets = command_output Lines (ends_behind (answer_to (judge_lines pair))) (bundle octets)
of_command (read pair) octets = command_output Lines (body_behind (read_lines pair)) (bundle octets)
of_command (write r rep) octets = command_output Records (body_behind (write_records r rep)) (bundle octets)
of_command (convert pair to) octets = command_output Records (body_behind (convert_records pair to)) (bundle octets)
of_command show octets = command_output Lines (ends_behind (answer_to show_lines)) (bundle octets)
of_command (wrap kind) octets = wrapped kind octets
of_command (instances pair depth) octets = command_output Lines (body_behind (instances_lines pair depth)) (bundle octets)
of_command (keep r rep) octets = command_output Records (body_behind (record_records r rep)) (bundle octets)
of_command (replay r) octets = command_output Lines (body_behind (replay_lines r)) (bundle octets)
of_command (make seed count) octets = made seed count
of_command (compare rep policy) octets = command_output Lines (ends_behind (compare_output policy rep)) (bundle octets)

abbrev pub asked : Option Command → List ℕ → Output
asked None octets = bad_words
asked (Some command) octets = of_command command octets

abbrev pub output_of : List (List ℕ) → List ℕ → Output
output_of words octets = asked (command_of words) octets

-- ---- whether the input is read

-- `make` alone reads none.
abbrev pub TakesInput : Command → Type 0
TakesInput (make seed count) = ⊥
TakesInput compile = Unit {0}
TakesInput (judge pair) = Unit {0}
TakesInput (read pair) = Unit {0}
TakesInput (write r rep) = Unit {0}
TakesInput (convert pair to) = Unit {0}
TakesInput show = Unit {0}
TakesInput (wrap kind) = Unit {0}
TakesInput (instances pair depth) = Unit {0}
TakesInput (keep r rep) = Unit {0}
TakesInput (replay r) = Unit {0}
TakesInput (compare rep policy) = Unit {0}

-- what `make` writes whatever its input is
abbrev pub unread_command : Command → Option Output
unread_command (make seed count) = Some (made seed count)
unread_command compile = None
unread_command (judge pair) = None
unread_command (read pair) = None
unread_command (write r rep) = None
unread_command (convert pair to) = None
unread_command show = None
unread_command (wrap kind) = None
unread_command (instances pair depth) = None
unread_command (keep r rep) = None
unread_command (replay r) = None
unread_command (compare rep policy) = None

-- the same of words that are no command
abbrev pub unread_output : Option Command → Option Output
unread_output None = Some bad_words
unread_output (Some command) = unread_command command

-- ---- the last line where the source fails: a line, or a Note where records are written

abbrev pub style_of_command : Command → Style
style_of_command compile = Records
style_of_command (judge pair) = Lines
style_of_command (read pair) = Lines
style_of_command (write r rep) = Records
style_of_command (convert pair to) = Records
style_of_command show = Lines
style_of_command (wrap kind) = Lines
style_of_command (instances pair depth) = Lines
style_of_command (keep r rep) = Records
style_of_command (replay r) = Lines
style_of_command (make seed count) = Lines
style_of_command (compare rep policy) = Lines

abbrev pub style_asked : Option Command → Style
style_asked None = Lines
style_asked (Some command) = style_of_command command

abbrev pub style_of : List (List ℕ) → Style
style_of words = style_asked (command_of words)
