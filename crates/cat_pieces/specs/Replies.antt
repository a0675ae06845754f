-- What a machine makes of the bytes that have come on a connection.
use Rattle.std.specs.Prelude.{◌≡◌, ℕ, ◌<◌, ◌≤◌, Bool, true, false, List, ◌++◌, length, if◌then◌else◌}
use Rattle.std.specs.Io.KnownBytes.{Appends, Consumes}
use Rattle.cat_http.specs.Lines.{blank}
use Rattle.cat_http.specs.Message.{Stands}
use Rattle.cat_http.specs.declared.message.Next.TheVariants as next
use Rattle.cat_connection.specs.Connection.{Precede}
use Rattle.cat_connection.specs.Items.{AreMessages, Item, StandsFirst, is_last}
use Rattle.cat_connection.specs.Runs.{Answering, AnswersItem, AnswersItems, Lacking}
use Rattle.cat_listener.specs.Step.{text_bytes}
use Rattle.cat_listener.specs.Turn.{Turn}
use Rattle.cat_listener.specs.declared.step.Step.{Step}
use Rattle.cat_listener.specs.declared.step.Step.TheVariants.{Reply, Last, More}
use Rattle.cat_listener.specs.declared.step.Text.{Text}

-- the step with this reply to a message of so many bytes, with which the connection ends or doesn't
abbrev pub step_with : Bool → ℕ → Text → Step
step_with last used text = if last then Last text else Reply used text

-- A machine answered the message at the front of the bytes, and this is its reply; or no whole one stands there, the machine is as before, and the
-- empty lines at the front belong to no message.
abbrev pub Replies : {A : Type 0} → Answering A → Lacking A → A → List ℕ → Step → A → Type 0
Replies answers lacks old bytes (Reply used text) new = (item : Item) × StandsFirst bytes item used × (is_last item ≡ false) × (0 < used) × (used ≤ length bytes) × AnswersItem answers lacks old item new (text_bytes text)
Replies answers lacks old bytes (Last text) new = (item : Item) × (used : ℕ) × StandsFirst bytes item used × (is_last item ≡ true) × AnswersItem answers lacks old item new (text_bytes text)
Replies answers lacks old bytes (More gone part) new = Stands bytes next.More × (new ≡ old) × (gone ≡ blank bytes)

-- A machine answered the first messages of the bytes that came on a connection, or all of them; what was written, and then what is still to be
-- written, are its replies. While the connection hasn't ended, the messages precede what isn't answered, and are all that there are where that is no
-- whole one; once it has, they are all, whatever may follow.
pub record HasAnswered {A : Type 0} (answers : Answering A) (lacks : Lacking A) (old : A) (t : Turn) (new : A) : Type 0 where
  pub taken : List ℕ
  pub takes : Consumes t.left t.left_after taken
  pub items : List Item
  pub out : List ℕ
  pub writes : Appends t.written t.written_after out
  pub runs : AnswersItems answers lacks old items new (out ++ t.after.going)
  pub precede : t.after.last ≡ false → Precede taken items t.after.came
  pub all : t.after.last ≡ false → Stands t.after.came next.More → AreMessages taken items
  pub ended : t.after.last ≡ true → (more : List ℕ) → AreMessages (taken ++ more) items
