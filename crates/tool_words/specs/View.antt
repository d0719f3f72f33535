-- What the program's references and commands stand for (this profile's own).
use Rattle.std.specs.Prelude.{ℕ, List, Option}
use Rattle.tool_words.specs.declared.references.Form.{Form}
use Rattle.tool_words.specs.declared.references.Form.TheVariants as form
use Rattle.tool_words.specs.declared.references.Reference.{Reference}
use Rattle.tool_words.specs.declared.commands.Pair.{Pair}
use Rattle.tool_words.specs.declared.commands.Command.{Command}
use Rattle.tool_words.specs.declared.commands.Command.TheVariants as command
use Rattle.tool_words.specs.declared.peers.NetCommand.{NetCommand}
use Rattle.tool_words.specs.declared.peers.NetCommand.TheVariants as peers
use Rattle.tool_words.specs.Words as spec

abbrev pub form_view : Form → spec.Form
form_view (form.Plain name) = spec.plain name.now
form_view (form.Within number name) = spec.within number name.now
form_view (form.ById id) = spec.by_id id

abbrev pub reference_view : Reference → spec.Reference
reference_view r = record { word = r.word.now; form = form_view r.form }

abbrev pub pair_view : Pair → spec.Pair
pair_view p = record { reader = reference_view p.reader; writer = reference_view p.writer; rep = p.rep; policy = p.policy }

abbrev pub command_view : Command → spec.Command
command_view command.Compile = spec.compile
command_view (command.Judge pair) = spec.judge (pair_view pair)
command_view (command.Read pair) = spec.read (pair_view pair)
command_view (command.Write ty rep) = spec.write (reference_view ty) rep
command_view (command.Convert pair to) = spec.convert (pair_view pair) to
command_view command.Show = spec.show
command_view (command.Wrap kind) = spec.wrap kind
command_view (command.Instances pair depth) = spec.instances (pair_view pair) depth.count
command_view (command.Record ty rep) = spec.keep (reference_view ty) rep
command_view (command.Replay ty) = spec.replay (reference_view ty)
command_view (command.Make seed count) = spec.make seed count
command_view (command.Compare rep policy) = spec.compare rep policy

abbrev pub net_view : NetCommand → spec.NetCommand
net_view (peers.Serve to service) = spec.serve to.now service.workers service.turns
net_view (peers.Fetch to asked) = spec.fetch to.now asked.id
net_view (peers.Mirror to) = spec.mirror to.now
