-- What holds of every live script.
use Rattle.std.specs.Prelude.{◌≡◌, ℕ, List}
use Rattle.live_script.specs.declared.command.ScriptCommand.{ScriptCommand}
use Rattle.live_script.specs.declared.script_fault.ScriptFault.{ScriptFault}
use Rattle.live_script.specs.Scripts.{IsScript}
use Rattle.live_script.specs.LiveText.{IsLiveText}
use Rattle.live_script.specs.ScriptRefusals.{IsScriptRefusedFor}

-- no bytes are a script of two lists of commands
abbrev pub OneScript : Type 0
OneScript = (bytes : List ℕ) (cs ds : List ScriptCommand) → IsScript bytes cs → IsScript bytes ds → cs ≡ ds

-- bytes have at most one reason to be refused as a script
abbrev pub OneScriptRefusal : Type 0
OneScriptRefusal = (bytes : List ℕ) (f g : ScriptFault) → IsScriptRefusedFor bytes f → IsScriptRefusedFor bytes g → f ≡ g

-- no bytes that are a script are refused
abbrev pub NoScriptIsRefused : Type 0
NoScriptIsRefused = (bytes : List ℕ) (commands : List ScriptCommand) (f : ScriptFault) → IsScript bytes commands → IsScriptRefusedFor bytes f → ⊥

-- no bytes are neither a script nor refused as one
abbrev pub NoScriptIsNeither : Type 0
NoScriptIsNeither = (bytes : List ℕ) → ((commands : List ScriptCommand) → IsScript bytes commands → ⊥) → ((f : ScriptFault) → IsScriptRefusedFor bytes f → ⊥) → ⊥

-- no bytes are a script with two texts of answers
abbrev pub OneLiveText : Type 0
OneLiveText = (bytes a b : List ℕ) → IsLiveText bytes a → IsLiveText bytes b → a ≡ b
