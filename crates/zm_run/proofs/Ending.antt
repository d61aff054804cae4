-- How a run goes on, and how it ends.
use Rattle.std.proofs.Common.{◌≡◌, ℕ, ◌+◌, ◌≤◌, Option, Result, Ok, Err, MatchResult, List, [], ◌++◌, ◌⊎◌, length, take, drop, refl, sym, ap, subst, ◌∙◌, inl, inr, append_assoc, append-nil, length-append, arith}
use Rattle.std.proofs.lemmas.List.{take-append-drop}
use Rattle.ev_ports.specs.Ports.{Gains, Gains-chain, Gains-nothing, IsSpent, Loses, Loses-chain, Loses-nothing, PutsAll}
use Rattle.ev_ports.specs.declared.writing.Written.TheVariants.{Failed}
use Rattle.zm_text.specs.Texts.{HasText}
use Rattle.zm_run.specs.declared.input.Input.{Input}
use Rattle.zm_run.specs.declared.runner.Runner.{Runner}
use Rattle.zm_run.specs.declared.runner.Stop.{Stop}
use Rattle.zm_run.specs.declared.runner.Stop.TheVariants.{BadLine, NoMemory}
use Rattle.zm_run.specs.declared.status.Status.TheVariants as status
use Rattle.zm_run.specs.Inputs.{AreLines, HasNoFeed, SplitsWhole, bytes_of, max_input_bytes}
use Rattle.zm_run.specs.RunEnds.{ReadSome, Replays, WroteSome}
use Rattle.zm_run.specs.Running.{Grows, PlayedOn, PlayedToEnd, Running, Represents, StaysAsItWas, StoppedIn, pending_of, setting_in}
use Rattle.zm_run.specs.Stops.{status_of}
use Rattle.zm_run.proofs.Feeds.{lines_within}
use Rattle.zm_run.proofs.Told.{still_represents, told_nothing}

-- a runner that played no more lines than bytes were read
pub lines_counted : (left left' held held' : Option (List ℕ)) (runner : Runner) (input : Input) → Running left left' held held' runner input → runner.lines ≤ input.read
lines_counted left left' held held' runner input running =
    let counted = running.played.counted in
    let measured = running.measured in
    let within = lines_within running.lines in
    let split : length running.read ≡ length (bytes_of running.lines) + length (pending_of input) =
    ap (λ xs. length xs) running.whole ∙ length-append (bytes_of running.lines) (pending_of input) in
    omega arith

-- a piece was read
pub running_after_read : (left before after held held' : Option (List ℕ)) (runner : Runner) (old new : Input)
    → Grows before after old new → Running left before held held' runner old → Running left after held held' runner new
running_after_read left before after held held' runner old new grows running = record {
  read = running.read ++ grows.bytes;
  written = running.written;
  lines = running.lines;
  took = Loses-chain left before after running.read grows.bytes running.took grows.took;
  gave = running.gave;
  played = running.played;
  handed = running.handed;
  whole = ap (λ front. front ++ grows.bytes) running.whole
      ∙ append_assoc (bytes_of running.lines) (pending_of old) grows.bytes
      ∙ ap (λ back. bytes_of running.lines ++ back) (sym grows.pending);
  measured =
      let total = length-append running.read grows.bytes in
      let before_was = running.measured in
      let now_is = grows.read in
      omega arith;
}

-- nothing was read
pub running_unread : (left before after held held' : Option (List ℕ)) (runner : Runner) (old new : Input)
    → StaysAsItWas before after old new → Running left before held held' runner old → Running left after held held' runner new
running_unread left before after held held' runner old new stays running = record {
  read = running.read;
  written = running.written;
  lines = running.lines;
  took = subst (λ l. Loses left running.read l) (sym stays.kept) running.took;
  gave = running.gave;
  played = running.played;
  handed = running.handed;
  whole = running.whole ∙ ap (λ back. bytes_of running.lines ++ back) (sym stays.pending);
  measured = running.measured ∙ sym stays.read;
}

-- the lines of a piece were played, and their output was written
pub running_after_piece : (left left' held before after : Option (List ℕ)) (old mid new : Runner) (input input' : Input) (used : ℕ)
    → (running : Running left left' held before old input)
    → PlayedOn mid running.lines running.written (take used (pending_of input))
    → Gains before mid.output.items after → new.output.items ≡ [] → new.player ≡ mid.player → new.is_first ≡ mid.is_first → new.lines ≡ mid.lines
    → pending_of input' ≡ drop used (pending_of input) → input'.read ≡ input.read
    → Running left left' held after new input'
running_after_piece left left' held before after old mid new input input' used running on puts emptied player first counts pending read =
    let text = running.written ++ mid.output.items in
    let same : text ≡ text ++ new.output.items = sym (append-nil text) ∙ ap (λ t. text ++ t) (sym emptied) in
    let represents : Represents mid.player (setting_in mid) on.after (text ++ new.output.items) =
    subst (λ t. Represents mid.player (setting_in mid) on.after t) same on.played.represents in
    record {
      read = running.read;
      written = text;
      lines = on.after;
      took = running.took;
      gave = Gains-chain held before after running.written mid.output.items running.gave puts;
      played = record {
        represents = still_represents mid new on.after (text ++ new.output.items) player first represents;
        counted = counts ∙ on.played.counted;
        good = on.played.good;
      };
      handed = emptied;
      whole = running.whole
          ∙ ap (λ t. bytes_of running.lines ++ t) (sym (take-append-drop used (pending_of input)))
          ∙ sym (append_assoc (bytes_of running.lines) (take used (pending_of input)) (drop used (pending_of input)))
          ∙ ap (λ front. front ++ drop used (pending_of input)) (sym on.spelled)
          ∙ ap (λ t. bytes_of on.after ++ t) (sym pending);
      measured = running.measured ∙ sym read;
    }

-- a part of the text is written
wrote_some : (read written output : List ℕ) (lines : List (List ℕ)) (rest : List ℕ) (left : Option (List ℕ)) (n : ℕ)
    → (read ≡ bytes_of lines ++ rest) ⊎ (SplitsWhole read lines × IsSpent left) → AreLines lines
    → HasText lines (written ++ output) → WroteSome read (written ++ take n output) left
wrote_some read written output lines rest left n begins good text = record {
  lines = lines;
  rest = rest;
  text = written ++ output;
  more = drop n output;
  begins = begins;
  good = good;
  whole = text;
  part = ap (λ t. written ++ t) (sym (take-append-drop n output)) ∙ sym (append_assoc written (take n output) (drop n output));
}

-- the bytes of the lines that were played in a piece, and the rest of it
pub rest_of_piece : (lines after : List (List ℕ)) (read pending : List ℕ) (used : ℕ) → read ≡ bytes_of lines ++ pending
    → bytes_of after ≡ bytes_of lines ++ take used pending → read ≡ bytes_of after ++ drop used pending
rest_of_piece lines after read pending used whole spelled =
    whole ∙ ap (λ t. bytes_of lines ++ t) (sym (take-append-drop used pending))
    ∙ sym (append_assoc (bytes_of lines) (take used pending) (drop used pending))
    ∙ ap (λ front. front ++ drop used pending) (sym spelled)

-- a write failed after the lines of a piece were played
fault_after_piece : (left left' held before after : Option (List ℕ)) (old mid : Runner) (input : Input) (used : ℕ)
    → (running : Running left left' held before old input)
    → PlayedOn mid running.lines running.written (take used (pending_of input))
    → PutsAll Failed before mid.output.items after → Replays status.WriteFault left left' held after
fault_after_piece left left' held before after old mid input used running on puts = record {
  read = running.read;
  written = running.written ++ take puts.0 mid.output.items;
  took = running.took;
  gave = Gains-chain held before after running.written (take puts.0 mid.output.items) running.gave puts.2;
  ends = wrote_some running.read running.written mid.output.items on.after (drop used (pending_of input)) left' puts.0
      (inl (rest_of_piece running.lines on.after running.read (pending_of input) used running.whole on.spelled))
      on.played.good on.played.represents.told;
}

-- a write failed after a line wasn't played
fault_after_stop : (left left' held before after : Option (List ℕ)) (stop : Stop) (old mid : Runner) (input : Input)
    → (running : Running left left' held before old input)
    → StoppedIn stop mid running.lines running.written (pending_of input) left'
    → PutsAll Failed before mid.output.items after → Replays status.WriteFault left left' held after
fault_after_stop left left' held before after stop old mid input running stopped puts = record {
  read = running.read;
  written = running.written ++ take puts.0 mid.output.items;
  took = running.took;
  gave = Gains-chain held before after running.written (take puts.0 mid.output.items) running.gave puts.2;
  ends = wrote_some running.read running.written mid.output.items stopped.after stopped.rest left' puts.0
      (inl (running.whole ∙ stopped.spelled)) stopped.good stopped.text;
}

-- a write failed, whatever came of a piece
pub fault_in_piece : (left left' held before after : Option (List ℕ)) (old mid : Runner) (input : Input) (played : Result ℕ Stop)
    → (running : Running left left' held before old input)
    → MatchResult played (λ used. PlayedOn mid running.lines running.written (take used (pending_of input)))
    (λ stop. StoppedIn stop mid running.lines running.written (pending_of input) left')
    → PutsAll Failed before mid.output.items after → Replays status.WriteFault left left' held after
fault_in_piece left left' held before after old mid input (Ok used) running goes puts =
    fault_after_piece left left' held before after old mid input used running goes puts
fault_in_piece left left' held before after old mid input (Err stop) running goes puts =
    fault_after_stop left left' held before after stop old mid input running goes puts

-- a write failed, whatever came of the last line
pub fault_at_end : (left left' held before after : Option (List ℕ)) (old mid : Runner) (input : Input) (played : Result (Unit {0}) Stop)
    → (running : Running left left' held before old input) → IsSpent left'
    → MatchResult played (λ _. PlayedToEnd mid running.lines running.written (pending_of input))
    (λ stop. StoppedIn stop mid running.lines running.written (pending_of input) left')
    → PutsAll Failed before mid.output.items after → Replays status.WriteFault left left' held after
fault_at_end left left' held before after old mid input (Err stop) running spent goes puts =
    fault_after_stop left left' held before after stop old mid input running goes puts
fault_at_end left left' held before after old mid input (Ok done) running spent goes puts = record {
  read = running.read;
  written = running.written ++ take puts.0 mid.output.items;
  took = running.took;
  gave = Gains-chain held before after running.written (take puts.0 mid.output.items) running.gave puts.2;
  ends = wrote_some running.read running.written mid.output.items goes.after [] left' puts.0
      (inr (subst (λ r. SplitsWhole r goes.after) (sym running.whole) goes.split, spent))
      goes.played.good goes.played.represents.told;
}

-- a line wasn't played, and the output before it was written
pub ends_at_stop : (left left' held before after : Option (List ℕ)) (stop : Stop) (old mid : Runner) (input : Input)
    → (running : Running left left' held before old input)
    → StoppedIn stop mid running.lines running.written (pending_of input) left'
    → Gains before mid.output.items after → Replays (status_of stop mid.lines) left left' held after
ends_at_stop left left' held before after BadLine old mid input running stopped puts = record {
  read = running.read;
  written = running.written ++ mid.output.items;
  took = running.took;
  gave = Gains-chain held before after running.written mid.output.items running.gave puts;
  ends = record {
    lines = stopped.after;
    numbered = ap (λ n. n + 1) stopped.counted;
    text = stopped.text;
    breaks = record { rest = stopped.rest; whole = running.whole ∙ stopped.spelled; good = stopped.good; bad = stopped.why };
  };
}
ends_at_stop left left' held before after NoMemory old mid input running stopped puts = record {
  read = running.read;
  written = running.written ++ mid.output.items;
  took = running.took;
  gave = Gains-chain held before after running.written mid.output.items running.gave puts;
  ends = record {
    lines = stopped.after;
    rest = stopped.rest;
    text = running.written ++ mid.output.items;
    more = [];
    begins = inl (running.whole ∙ stopped.spelled);
    good = stopped.good;
    whole = stopped.text;
    part = sym (append-nil (running.written ++ mid.output.items));
  };
}

-- all was read and played, and the whole output was written
pub ends_done : (left left' held before after : Option (List ℕ)) (old mid : Runner) (input : Input)
    → (running : Running left left' held before old input) → IsSpent left'
    → PlayedToEnd mid running.lines running.written (pending_of input)
    → Gains before mid.output.items after → Replays status.Done left left' held after
ends_done left left' held before after old mid input running spent goes puts = record {
  read = running.read;
  written = running.written ++ mid.output.items;
  took = running.took;
  gave = Gains-chain held before after running.written mid.output.items running.gave puts;
  ends = record {
    lines = goes.after;
    spent = spent;
    split = subst (λ r. SplitsWhole r goes.after) (sym running.whole) goes.split;
    text = goes.played.represents.told;
  };
}

-- the text of what was played is what was written
written_text : (left left' held held' : Option (List ℕ)) (runner : Runner) (input : Input)
    → (running : Running left left' held held' runner input) → HasText running.lines running.written
written_text left left' held held' runner input running =
    let none : running.written ++ runner.output.items ≡ running.written =
    ap (λ t. running.written ++ t) running.handed ∙ append-nil running.written in
    subst (λ t. HasText running.lines t) none running.played.represents.told

read_some : (left left' held held' : Option (List ℕ)) (runner : Runner) (input : Input)
    → (running : Running left left' held held' runner input) → HasNoFeed (pending_of input) → ReadSome running.read running.written
read_some left left' held held' runner input running no_feed = record {
  lines = running.lines;
  rest = pending_of input;
  split = record { whole = running.whole; good = running.played.good; no_feed = no_feed };
  text = written_text left left' held held' runner input running;
}

-- a read failed
pub ends_at_fault : (left left' held held' : Option (List ℕ)) (runner : Runner) (input : Input)
    → Running left left' held held' runner input → HasNoFeed (pending_of input) → Replays status.ReadFault left left' held held'
ends_at_fault left left' held held' runner input running no_feed = record {
  read = running.read;
  written = running.written;
  took = running.took;
  gave = running.gave;
  ends = read_some left left' held held' runner input running no_feed;
}

-- as many bytes were read as may be, and no end
pub ends_too_long : (left left' held held' : Option (List ℕ)) (runner : Runner) (input : Input)
    → Running left left' held held' runner input → HasNoFeed (pending_of input) → input.read ≡ max_input_bytes
    → Replays status.InputTooLong left left' held held'
ends_too_long left left' held held' runner input running no_feed full = record {
  read = running.read;
  written = running.written;
  took = running.took;
  gave = running.gave;
  ends = (running.measured ∙ full, read_some left left' held held' runner input running no_feed);
}

-- memory was wanted before anything was read
pub ends_at_first : (left held : Option (List ℕ)) → Replays status.NoMemory left left held held
ends_at_first left held = record {
  read = [];
  written = [];
  took = Loses-nothing left;
  gave = Gains-nothing held;
  ends = record {
    lines = [];
    rest = [];
    text = [];
    more = [];
    begins = inl refl;
    good = tt;
    whole = told_nothing;
    part = refl;
  };
}
