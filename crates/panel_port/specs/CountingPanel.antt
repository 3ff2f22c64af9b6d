-- What contracts see of a panel that keeps numbers only.
use Rattle.std.specs.Prelude.{ℕ, ◌+◌}
use Rattle.chart_model.specs.declared.drawing.Block.{Block}
use Rattle.panel_port.specs.Panel.{item_count, up_to_last}
use Rattle.panel_port.specs.declared.counting_panel.CountingPanel.{CountingPanel}
use Rattle.panel_port.specs.declared.summary.Summary.{Summary}

-- the numbers that it keeps
abbrev pub numbers_of : CountingPanel → Summary
numbers_of panel = panel.numbers

-- how many calls were made
abbrev pub calls_of : CountingPanel → ℕ
calls_of panel = panel.calls

-- nothing was put
abbrev pub none_put : Summary
none_put = record { blocks = 0; items = 0 }

-- one block more was put, with its items
abbrev pub one_put : Block → Summary → Summary
one_put block numbers = record {
  blocks = up_to_last (numbers.blocks + 1);
  items = up_to_last (numbers.items + item_count block);
}
