-- What an answer to apply values says of the text, and when there is always one.
use Rattle.std.proofs.Common.{◌≡◌, ℕ, List, length, refl, ap, ◌∙◌}
use Rattle.std.specs.Prelude.{ℤ, pos}
use Rattle.fixed_expr.specs.Value.{value_of}
use Rattle.plant_record.specs.Description.{Description, vector_of}
use Rattle.plant_record.specs.Steps.{step_of}
use Rattle.std.specs.Prelude.{◌++◌, map, take}
use Rattle.text_control.specs.declared.reply.Reply.{Reply}
use Rattle.text_control.specs.declared.reply.Reply.TheVariants.{Apply, Arrived, NoRow, WrongSizes}
use Rattle.text_control.specs.Texts.{TextModel, Tells}
use Rattle.text_control.specs.Control.{AreSized, AreChosen, AreTextValues, IsReply, IsReplyByText, reply_number}
use Rattle.text_control.specs.Loops.{LoopSample, moved_by, Answers, AlwaysAnswers}

-- an answer 1 is to apply
pub chosen_by : (t : TextModel) (x before values : List ℤ) (reply : Reply) → pos 1 ≡ reply_number reply → IsReply t x before values reply → AreChosen t x values
chosen_by t x before values Apply number is = is.1
chosen_by t x before values Arrived number is = absurd (cc)
chosen_by t x before values NoRow number is = absurd (cc)
chosen_by t x before values WrongSizes number is = absurd (cc)

pub chosen : (t : TextModel) (x values : List ℤ) → Answers t x values → AreChosen t x values
chosen t x values answers = chosen_by t x answers.0 values answers.1.0 answers.1.1 answers.1.2

-- where the text has values for the state, each answer is to apply some
answers_by : (t : TextModel) (x before after : List ℤ) (bytes : List ℕ) → Tells bytes t → (values : List ℤ) → AreTextValues t.kind t.turn bytes x values → AreSized t x before
    → (reply : Reply) → IsReply t x before after reply → IsReplyByText t x after reply → reply_number reply ≡ pos 1
answers_by t x before after bytes tells values are sized Apply is text = refl
answers_by t x before after bytes tells values are sized Arrived is text = absurd ((text bytes tells).1 values are)
answers_by t x before after bytes tells values are sized NoRow is text = absurd ((text bytes tells).1 values are)
answers_by t x before after bytes tells values are sized WrongSizes is text = absurd (is.0 sized)

pub always_answers : (t : TextModel) (x : List ℤ) (bytes : List ℕ) → Tells bytes t → (values : List ℤ) → AreTextValues t.kind t.turn bytes x values → AlwaysAnswers t x
always_answers t x bytes tells values are before after number sized encodes =
    encodes.1 ∙ answers_by t x before after bytes tells values are sized encodes.0 encodes.2 encodes.3

-- the values have the step of their input
pub moves : (p : Description) (s : LoopSample) (u : ℕ) → s.values ≡ vector_of p.inputs u → moved_by p s ≡ step_of p s.state u s.noise
moves p s u are = ap (λ (values : List ℤ). map (λ e. value_of e (take (length p.states) s.state ++ values ++ take (length p.noises) s.noise)) p.equations) are
